-- Laying pieces out.
pub mod Pieces
