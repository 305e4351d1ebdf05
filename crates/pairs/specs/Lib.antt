pub mod Lean
pub mod Leaning
