-- What reading fields needs.
pub mod Kept
