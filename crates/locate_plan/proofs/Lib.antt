pub mod Subtrees
pub mod Elements
pub mod Testing
pub mod Tops
