pub mod Splitting
pub mod Shorter
