-- The laws of this crate that others cite: its moves, and that its steps are right; and one window of its search as its code goes through it.
pub mod Moves
pub mod Sound
pub mod Steps
