-- The line rule.
pub mod LineColumn
