pub mod Starting
pub mod Blaming
pub mod Saying
pub mod Changed
pub mod Once
