-- What the sign needs.
pub mod Turned
