pub mod TypeDues
pub mod Recalls
pub mod Judging
pub mod Glanced
