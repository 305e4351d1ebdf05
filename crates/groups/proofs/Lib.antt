pub mod Rows
pub mod Walks
pub mod Headers
pub mod Wholes
pub mod Askings
pub mod Picks
pub mod Results
