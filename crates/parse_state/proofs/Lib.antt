pub mod Beside
pub mod Leaf
pub mod Once
