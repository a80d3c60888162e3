-- The laws of listing.
pub mod Listed
pub mod Asked
pub mod Once
