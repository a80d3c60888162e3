-- Laws of the program.
pub mod Accepting
pub mod Reading
