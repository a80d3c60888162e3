pub mod Standing
pub mod Leaves
pub mod Elements
pub mod Contents
pub mod Once
