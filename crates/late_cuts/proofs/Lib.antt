-- The laws of late cuts.
pub mod Entries
pub mod Lists
pub mod Calls
pub mod Signed
pub mod Fresh
pub mod Relisted
pub mod NewList
pub mod Again
