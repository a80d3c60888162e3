pub mod Answers
pub mod Found
