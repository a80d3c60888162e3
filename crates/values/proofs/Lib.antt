pub mod Letters
pub mod Numbering
pub mod Complements
pub mod Padding
pub mod Once
