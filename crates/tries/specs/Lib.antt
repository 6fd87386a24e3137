-- The table of a group's automaton: its trie, links and bits, and rows; how it grows; and the step by it.
pub mod Tables
pub mod Group
pub mod Links
pub mod Rows
pub mod Steps
