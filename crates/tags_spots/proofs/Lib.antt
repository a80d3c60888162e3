pub mod Spotting
pub mod Once
