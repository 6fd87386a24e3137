-- The laws of the line rule.
pub mod Endings
pub mod Lines
