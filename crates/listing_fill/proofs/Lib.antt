-- The laws of filling a batch.
pub mod Batches
pub mod Filled
pub mod Going
