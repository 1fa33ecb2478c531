pub mod Base64Forms
pub mod Choices
pub mod Depths
pub mod FieldPaths
mod Found
pub mod Integers
pub mod Named
pub mod Readings
pub mod Spellings
pub mod Walks
pub mod Writings
pub mod Written
