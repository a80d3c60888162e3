pub mod Leaves
pub mod Once
