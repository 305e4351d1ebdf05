pub mod SizeStep
pub mod Measure
