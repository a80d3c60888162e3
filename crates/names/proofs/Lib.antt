pub mod Positions
pub mod Once
