-- The laws of writing a cue, the theorems that reading and writing are inverse, and the laws of a title in a book that was written.
pub mod Writing
pub mod Inverse
pub mod Titles
