pub mod Deciding
pub mod Judging
pub mod Once
