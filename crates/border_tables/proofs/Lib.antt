-- The laws of this crate that others cite.
pub mod Borders
pub mod Kmp
pub mod MaxShift
pub mod Moves
