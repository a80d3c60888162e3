pub mod Reading
pub mod Told
