-- The laws of characters.
pub mod Characters
