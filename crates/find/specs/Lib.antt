-- The engine behind a method number.
pub mod Find
