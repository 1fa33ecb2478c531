pub mod Calendar
pub mod Inner
pub mod Moment
pub mod Pieces
pub mod Rfc3339
pub mod Stamp
