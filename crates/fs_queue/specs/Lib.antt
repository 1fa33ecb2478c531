pub mod Queue
pub mod Overlay
pub mod Refusal
pub mod Room
pub mod Parted
