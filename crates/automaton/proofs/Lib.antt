-- The laws of the tests of a group and of the walk, and what a walk for a group gives of its phrases' occurrences.
pub mod Accepting
pub mod Children
pub mod Classing
pub mod Entries
pub mod Levels
pub mod Linking
pub mod Stepping
pub mod Fitting
pub mod Walks
pub mod Locating
