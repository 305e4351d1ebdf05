pub mod Members
pub mod RoleCodes
pub mod ByRole
pub mod RecordWords
pub mod AliasKinds
pub mod Groups
