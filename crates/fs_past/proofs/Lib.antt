mod Fitting
mod Holding
mod Keeping
mod Naming
mod OnBoard
mod Releasing
mod Rooms
pub mod LeastNumber
pub mod Waiting
