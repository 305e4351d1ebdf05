pub mod Refers
