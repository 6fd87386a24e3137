-- The laws of what the finder prints: where the input is split, that all lines fit the output, and the promise from what is laid out.
pub mod Split
pub mod Fits
pub mod Promise
