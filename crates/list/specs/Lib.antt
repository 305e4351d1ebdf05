pub mod Listing
pub mod Making
pub mod Reading
