-- The words of the boundary.
pub mod Answers
