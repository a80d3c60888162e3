pub mod Naming
pub mod Once
