-- The laws of the plan test and the locator.
pub mod Segments
pub mod Once
