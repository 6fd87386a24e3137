-- The laws of cues, of their values, and of their titles.
pub mod Tail
pub mod Cues
pub mod Values
pub mod Titles
