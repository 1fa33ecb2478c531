pub mod Places
mod EarPlaces
pub mod Ears
pub mod Listened
mod Gone
mod Joined
mod LeastTold
mod Unconcerned
mod InPlace
mod Picking
pub mod Replies
pub mod Raises
