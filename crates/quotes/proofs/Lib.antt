pub mod Bare
pub mod Layers
pub mod Printable
pub mod Quotes
pub mod Readings
pub mod Ones
