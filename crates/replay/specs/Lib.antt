pub mod Apart
pub mod Case
pub mod Count
pub mod Kept
pub mod Over
pub mod Run
