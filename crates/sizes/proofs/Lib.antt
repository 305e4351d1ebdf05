pub mod Scales
pub mod SizeSteps
pub mod TableSizes
pub mod Measured
pub mod Overs
