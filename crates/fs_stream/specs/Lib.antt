pub mod Streams
pub mod Answers
pub mod Stands
