pub mod Bringing
pub mod Kept
pub mod Touching
