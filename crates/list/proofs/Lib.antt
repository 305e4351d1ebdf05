pub mod Fielding
pub mod Gathering
pub mod Walking
pub mod Makings
pub mod Writings
pub mod Readings
pub mod Demands
pub mod Kept
