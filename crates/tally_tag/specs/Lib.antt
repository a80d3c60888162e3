pub mod Tallying
pub mod Numbered
