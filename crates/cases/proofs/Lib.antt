-- The theorem on the starred cases.
pub mod Hold
