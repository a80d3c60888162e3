pub mod Filling
pub mod Seeking
