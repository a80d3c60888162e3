-- The laws of runs.
pub mod Running
