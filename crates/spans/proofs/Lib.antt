pub mod Valued
pub mod Standing
pub mod Once
