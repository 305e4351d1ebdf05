pub mod Follows
pub mod ByKind
