pub mod NamesOver
pub mod Replaced
pub mod Headers
pub mod Acceptance
pub mod Pairs
pub mod Standing
pub mod Places
pub mod Numbers
