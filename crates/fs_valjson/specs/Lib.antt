pub mod Document
pub mod Reading
pub mod Steps
pub mod Writing
pub mod Valid
pub mod Held
pub mod Tokens
