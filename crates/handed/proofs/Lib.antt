pub mod Signs
pub mod Handing
pub mod Placing
