pub mod Entering
pub mod Once
