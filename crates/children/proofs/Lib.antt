pub mod Turning
pub mod Insides
pub mod Once
