pub mod Rarely
pub mod Once
