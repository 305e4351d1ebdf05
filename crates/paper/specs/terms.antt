-- The words that contracts and theorems speak in, and no rule: what is put, read, asked of bytes, and told by an answer.
pub mod Put
pub mod Reading
pub mod Full
pub mod Computes
pub mod Fit
pub mod Good
pub mod Smallest
pub mod Where
pub mod Early
pub mod Turn
