pub mod Restoring
pub mod Answering
pub mod Once
