-- What the timed functions give.
pub mod Contents
