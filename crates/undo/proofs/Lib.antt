-- The laws of edits and undos.
pub mod Editing
pub mod Once
pub mod Promises
