pub mod Leaving
pub mod Once
