pub mod All
pub mod Bounds
mod Events
pub mod Filters
pub mod Listed
pub mod Names
pub mod Sending
mod Served
pub mod Shown
pub mod Targets
mod Telling
mod ViewAnswers
mod Currents
pub mod OfDocuments
mod LoadTimes
mod UpdateTimes
mod Versions
mod Ready
