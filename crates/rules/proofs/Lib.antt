pub mod Dues
pub mod Quiet
pub mod Spaced
