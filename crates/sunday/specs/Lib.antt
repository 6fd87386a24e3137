-- The engine's published steps, and the value that `Found` is told.
pub mod Sunday
