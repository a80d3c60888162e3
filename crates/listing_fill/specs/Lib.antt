-- Batches of variables, and the words of the code that fills them.
pub mod Batch
pub mod Filling
