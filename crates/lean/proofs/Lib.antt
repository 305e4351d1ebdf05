pub mod Indexes
pub mod Shows
pub mod Leans
pub mod Demands
pub mod Askings
pub mod Ones
