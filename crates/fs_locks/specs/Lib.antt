pub mod Holds
pub mod HoldOrder
pub mod Tree
pub mod Shares
pub mod Locked
pub mod Paths
pub mod Spots
pub mod Marks
