pub mod Fields
pub mod Carrying
pub mod Bodying
pub mod Counting
pub mod Measures
