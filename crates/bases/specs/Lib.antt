pub mod Based
pub mod Sign
