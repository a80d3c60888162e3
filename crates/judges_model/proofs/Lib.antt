pub mod Entered
pub mod Left
pub mod Leaf
pub mod Rare
pub mod Answers
