pub mod Phase
pub mod Quick
