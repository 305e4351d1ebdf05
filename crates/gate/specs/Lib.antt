pub mod Standing
pub mod Check
