pub mod Telling
pub mod ByKind
pub mod Extents
pub mod Going
pub mod Passing
pub mod Backing
pub mod Ways
