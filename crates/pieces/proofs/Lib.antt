-- The laws of laying pieces out.
pub mod Laid
