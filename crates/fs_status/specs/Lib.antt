pub mod Message
pub mod Reason
pub mod Refusal
pub mod Status
