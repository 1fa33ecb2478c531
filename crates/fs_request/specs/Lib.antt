pub mod Refused
pub mod When
