pub mod Telling
pub mod Between
pub mod Once
