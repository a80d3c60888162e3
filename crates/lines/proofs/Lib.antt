-- Laws of the lines.
pub mod Listing
