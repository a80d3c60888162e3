pub mod Attributing
pub mod Showing
pub mod Walking
pub mod Once
