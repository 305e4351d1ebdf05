pub mod Leans
pub mod Asked
