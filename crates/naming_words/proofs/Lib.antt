pub mod Whole
pub mod Known
pub mod Once
