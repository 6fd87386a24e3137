-- The rules of the tables by borders, what their makers leave, and the moves that engines make by them.
pub mod Kmp
pub mod MaxShift
pub mod Moves
