-- The moves along a search, noted or not, what the public functions bring to the search that they share and make of what it found, and one window of that search as its code goes through it.
pub mod Tracked
pub mod Ready
pub mod Steps
pub mod Listed
