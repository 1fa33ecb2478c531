mod Laying
mod Merging
pub mod Named
mod Parting
