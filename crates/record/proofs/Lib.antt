pub mod Giving
pub mod Demands
