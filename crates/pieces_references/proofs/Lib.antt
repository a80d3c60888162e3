pub mod Referring
