pub mod Settling
pub mod Reading
pub mod Once
