pub mod Header
pub mod Part
pub mod Behind
