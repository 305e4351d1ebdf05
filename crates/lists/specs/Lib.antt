pub mod List
pub mod Kept
