-- What the library hands out.
pub mod Readings
