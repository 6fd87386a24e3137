-- The laws of the table: the trie and how it grows, its bits and fail links, its classes and rows, and the step by it.
pub mod Tries
pub mod Growth
pub mod Levels
pub mod Marks
pub mod Links
pub mod Linking
pub mod Marking
pub mod Rows
pub mod Puts
pub mod Classing
pub mod Overlays
pub mod Filling
pub mod Finishing
pub mod Steps
