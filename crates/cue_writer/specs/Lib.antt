-- The writer's promise; and what demand 2's theorems on the cue book speak of.
pub mod Writing
pub mod Inverse
