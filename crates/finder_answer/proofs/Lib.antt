-- The laws of what the finder prints for a phrase and a text: an engine's line from its find, by name and by number, and that all lines fit the output.
pub mod Rows
pub mod Numbers
pub mod Fits
