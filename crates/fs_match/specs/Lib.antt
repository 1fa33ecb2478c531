pub mod Event
pub mod Followed
pub mod Laws
