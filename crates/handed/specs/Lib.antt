pub mod Handed
pub mod Places
