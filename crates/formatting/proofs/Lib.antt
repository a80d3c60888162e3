pub mod Formats
pub mod Once
