-- The laws of cuts.
pub mod Lists
pub mod Calls
