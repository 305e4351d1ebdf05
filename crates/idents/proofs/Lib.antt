pub mod Runs
pub mod Passes
pub mod Sets
pub mod NameTests
