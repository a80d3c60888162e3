pub mod Tagged
pub mod Once
