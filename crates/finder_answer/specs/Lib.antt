-- What the finder program prints for a phrase and a text.
pub mod Answered
