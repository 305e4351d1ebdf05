pub mod Ones
pub mod Orders
pub mod PutWords
