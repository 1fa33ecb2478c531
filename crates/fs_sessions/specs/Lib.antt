pub mod Place
pub mod Heard
pub mod Matched
pub mod Matching
