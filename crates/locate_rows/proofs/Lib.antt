pub mod Numbers
pub mod Comparing
