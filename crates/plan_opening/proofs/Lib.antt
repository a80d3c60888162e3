pub mod Opening
pub mod Lent
pub mod Once
