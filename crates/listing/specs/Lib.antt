-- What listing answers.
pub mod Told
