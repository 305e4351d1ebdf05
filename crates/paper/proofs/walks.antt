-- By-value references followed: walks, chains, sizes and bases end. Leans on basics.
pub mod Chains
pub mod Endless
pub mod Insides
pub mod Sizes
pub mod Bases
