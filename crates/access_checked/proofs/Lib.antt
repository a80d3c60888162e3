pub mod Comparing
