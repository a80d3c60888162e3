pub mod Rare
