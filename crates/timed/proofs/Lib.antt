-- The laws of the timed functions.
pub mod Ended
pub mod Once
