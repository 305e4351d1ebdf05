pub mod Value
pub mod Given
pub mod Sought
pub mod Promised
