pub mod Extendings
pub mod Demands
