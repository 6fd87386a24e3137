-- The starred cases.
pub mod Cases
