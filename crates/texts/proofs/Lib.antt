pub mod Decimals
pub mod Passed
pub mod Ones
