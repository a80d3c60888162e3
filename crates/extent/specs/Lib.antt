-- Extents.
pub mod Reach
