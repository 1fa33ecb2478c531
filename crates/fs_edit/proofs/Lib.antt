pub mod Elements
pub mod Entries
pub mod Steps
pub mod Together
pub mod ValueSets
