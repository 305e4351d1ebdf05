pub mod Decimal
pub mod First
pub mod Line
