-- The laws of this crate: its steps are right, and what its search cites of its tables and of one window.
pub mod Sound
pub mod Ready
pub mod Steps
