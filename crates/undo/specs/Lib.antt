-- The words of edits by number.
pub mod Told
