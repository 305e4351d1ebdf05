pub mod LoweredBytes
pub mod Pieces
pub mod PartPuts
pub mod TwoParts
pub mod Aparts
pub mod Demands
