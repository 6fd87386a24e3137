-- The finder's lines, and laying them out.
pub mod Lines
