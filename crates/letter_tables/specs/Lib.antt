-- The rules of the tables by the last positions of letters, what their makers leave, the moves that engines make by them, and the widest gap between a letter and the same letter before it.
pub mod BadCharacter
pub mod DoubleWindow
pub mod Gaps
pub mod Moves
