-- What was read.
pub mod Sizes
