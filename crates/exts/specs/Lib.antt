pub mod Sorts
pub mod Items
pub mod Ext
pub mod Entries
pub mod Facts
pub mod Raise
pub mod Computes
