-- What the fields of a frame may be, and the hash.
pub mod Limits
