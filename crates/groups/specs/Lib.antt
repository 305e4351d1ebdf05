pub mod Walking
pub mod Fronts
pub mod Asking
