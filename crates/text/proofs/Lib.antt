pub mod Ends
pub mod Checks
pub mod Once
