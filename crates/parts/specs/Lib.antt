pub mod Cut
pub mod Pair
pub mod Brackets
