-- The set bits of a number, the laws of the states, and that the numbers at the letters of a text are those of a walk and give the occurrences.
pub mod Bits
pub mod States
pub mod Endings
pub mod Group
pub mod Counts
