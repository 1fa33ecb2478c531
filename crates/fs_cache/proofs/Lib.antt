mod Forgetting
mod Kept
pub mod Laid
pub mod Leaving
mod Naming
pub mod Showing
mod Taking
