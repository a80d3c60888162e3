pub mod Siblings
pub mod Walk
