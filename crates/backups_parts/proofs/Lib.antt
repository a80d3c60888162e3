pub mod Copying
pub mod Parting
pub mod Zeros
