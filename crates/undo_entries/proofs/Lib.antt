-- The laws of entries.
pub mod Along
pub mod Placing
pub mod Keeping
