pub mod Raising
pub mod Made
