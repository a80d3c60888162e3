-- The page, the words that it speaks in, and the steps to it.
pub mod Terms
pub mod Numbers
pub mod Steps
pub mod Accesses
pub mod Calls
pub mod Page
pub mod Boundary
