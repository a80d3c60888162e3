-- The laws of the judge.
pub mod Named
pub mod Numbering
pub mod Ordered
pub mod Steps
pub mod Heard
pub mod Needed
pub mod Kept
pub mod Bounding
pub mod Judged
pub mod Passing
