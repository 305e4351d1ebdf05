pub mod Taking
pub mod Measuring
