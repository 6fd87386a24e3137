-- What a reader of this crate's contracts must believe: the matching problem, the lent list, refusals as a table, comparing letters, the window machine, and what a find promises; and what is said of texts that are joined.
pub mod Occurrences
pub mod Received
pub mod Refusals
pub mod Letters
pub mod Machine
pub mod Results
pub mod Find
pub mod Joined
