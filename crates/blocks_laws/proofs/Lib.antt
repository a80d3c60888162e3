-- The laws of backups.
pub mod Parts
pub mod Sums
pub mod Tests
pub mod Noticed
pub mod Fields
pub mod Back
pub mod Again
pub mod Inspected
pub mod Promises
