pub mod Transactions
pub mod Expiry
pub mod Reading
pub mod Rising
pub mod Kept
