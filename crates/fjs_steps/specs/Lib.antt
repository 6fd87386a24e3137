-- The engine's published steps with the value that `Found` is told, the moves, and the scratch that a search reads.
pub mod Fjs
pub mod Moves
pub mod Scratch
