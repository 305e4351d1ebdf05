pub mod rules
pub mod terms
