pub mod Phase2
pub mod Scan
pub mod Behind
