pub mod Staging
pub mod Once
pub mod Promises
