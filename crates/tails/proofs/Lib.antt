pub mod Parameters
pub mod TailKinds
