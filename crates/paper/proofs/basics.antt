-- What everything leans on: tests and lists, the kinds' rows, the answers' numbers, the exit of a `?`, the byte orders.
pub mod Choices
pub mod Rows
pub mod Answers
pub mod Exits
pub mod Orders
