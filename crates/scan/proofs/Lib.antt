pub mod Along
pub mod Tests
pub mod Words
pub mod Spans
pub mod Once
