pub mod Extends
