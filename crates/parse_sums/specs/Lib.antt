pub mod Sums
pub mod Folding
