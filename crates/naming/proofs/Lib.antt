pub mod NameRoles
pub mod OptionalNames
