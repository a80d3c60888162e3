-- The laws of taking back.
pub mod Taking
pub mod Undoing
