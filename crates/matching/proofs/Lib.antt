-- The laws of this crate that others cite.
pub mod CaseAnalysis
pub mod Occurrences
pub mod Ranges
pub mod Those
pub mod Around
pub mod Received
pub mod Parts
pub mod Refusals
pub mod Letters
pub mod Machine
pub mod Find
pub mod Costs
pub mod Progress
pub mod Joined
