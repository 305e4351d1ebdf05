pub mod Escape
pub mod Quote
