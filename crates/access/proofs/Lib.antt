pub mod Accessing
pub mod Once
pub mod Promises
