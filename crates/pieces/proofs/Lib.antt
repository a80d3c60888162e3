pub mod Cutting
pub mod Moved
pub mod Once
pub mod Tagless
