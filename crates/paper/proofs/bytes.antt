-- Bytes, words, records and tables undo each other, and where in a blob a record stands. Leans on basics.
pub mod Words
pub mod Puts
pub mod Bytes
pub mod Headers
pub mod Sections
pub mod Tables
pub mod Blobs
pub mod Places
pub mod Reading
pub mod Identifiers
