pub mod Holding
pub mod Search
pub mod Trail
pub mod Links
