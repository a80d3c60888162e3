-- The words of taking back.
pub mod Held
