pub mod Headers
pub mod Behinds
pub mod Scans
pub mod Ones
