-- The laws of this crate that others cite.
pub mod BadCharacter
pub mod DoubleWindow
pub mod Gaps
pub mod Moves
