pub mod Telling
pub mod Spanning
pub mod Ones
pub mod Lyings
pub mod Longest
pub mod Handing
