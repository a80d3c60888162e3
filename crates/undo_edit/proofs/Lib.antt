-- The laws of edits.
pub mod Editing
