pub mod Voids
