pub mod References
pub mod SureRefs
