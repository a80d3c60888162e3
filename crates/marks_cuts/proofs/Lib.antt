pub mod Sorts
pub mod Standing
pub mod Tags
pub mod Inside
pub mod Runs
pub mod Once
pub mod Others
