-- The laws of this crate that others cite: DELTA2's rule, the entries as engines read them, and that a move by it passes over no occurrence. Then the makers' laws.
pub mod Delta2
pub mod Moves
pub mod Again
pub mod Suffixes
pub mod Passes
