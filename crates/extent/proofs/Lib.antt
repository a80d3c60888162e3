-- The laws of extents.
pub mod Signed
pub mod Joins
pub mod Reached
pub mod Holding
pub mod Once
