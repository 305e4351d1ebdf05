pub mod Stands
pub mod Checks
pub mod Demands
pub mod ReadOnce
