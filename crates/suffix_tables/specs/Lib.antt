-- The rules of the tables by suffixes, what their makers leave, and what the passes of DELTA2's maker ask of each other.
pub mod Suffixes
pub mod Delta2
pub mod Passes
