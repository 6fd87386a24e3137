-- The laws of a book with one title replaced.
pub mod Retitling
