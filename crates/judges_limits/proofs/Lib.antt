pub mod Limiting
pub mod Once
