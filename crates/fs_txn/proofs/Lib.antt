pub mod Entries
pub mod Keeping
pub mod Quiet
pub mod Readers
pub mod Several
pub mod Shown
pub mod Times
