-- What the walk along a journal answers.
pub mod Begun
