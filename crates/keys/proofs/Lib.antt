pub mod Keying
pub mod Once
