pub mod Seen
pub mod Forth
pub mod Pass
