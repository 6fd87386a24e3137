-- The engine's steps are right.
pub mod Sound
