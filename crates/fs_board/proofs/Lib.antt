pub mod Keys
pub mod Places
pub mod Keeping
pub mod Releasing
