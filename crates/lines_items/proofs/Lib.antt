pub mod Spelled
pub mod Putting
pub mod Once
