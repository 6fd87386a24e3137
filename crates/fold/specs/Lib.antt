-- Folding.
pub mod Fold
