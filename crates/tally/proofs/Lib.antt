-- The laws of the tally.
pub mod Levels
pub mod Parts
pub mod Tags
pub mod Plain
pub mod Rows
pub mod Items
pub mod Segments
pub mod Tallied
pub mod Named
