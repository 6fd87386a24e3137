-- A book with one title replaced, and the promise of writing it.
pub mod Retitling
