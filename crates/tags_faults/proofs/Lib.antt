pub mod Ruled
pub mod Faulted
