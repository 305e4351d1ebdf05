pub mod Lines
pub mod Steps
pub mod Recalling
pub mod Everywhere
pub mod NamedLeft
pub mod Tellings
