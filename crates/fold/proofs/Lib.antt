-- The laws of folding: of each page, and of a target that is filled letter by letter.
pub mod Fold
pub mod Filling
