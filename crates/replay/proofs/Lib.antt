pub mod Words
pub mod Parts
pub mod Runs
pub mod Overs
pub mod Aparts
pub mod Keepings
