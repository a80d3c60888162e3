-- The words of edits.
pub mod Told
