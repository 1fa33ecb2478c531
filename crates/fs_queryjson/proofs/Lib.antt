pub mod Again
pub mod Chosen
pub mod FilterAgain
pub mod FilterDepth
pub mod FilterValid
pub mod Floats
pub mod Lists
pub mod Put
pub mod QueryDepth
pub mod QueryValid
pub mod Rows
mod Simple
pub mod Walks
pub mod Written
