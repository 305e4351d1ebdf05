pub mod Lowering
pub mod Cutting
pub mod Rejoining
pub mod Cuts
pub mod Refusals
pub mod Bracketing
