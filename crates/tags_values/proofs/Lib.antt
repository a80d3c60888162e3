pub mod Ranged
pub mod Coded
pub mod Numbered
pub mod Formed
pub mod Once
