pub mod Entries
mod Pairing
pub mod Laws
