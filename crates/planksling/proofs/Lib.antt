-- The laws of the boundary.
pub mod Calls
pub mod Once
