-- A cue's format; what reading it gives on every byte string; where it stands in a book, with the reader's promise; and what the reader asks of reading what follows a title.
pub mod Cue
pub mod Reading
pub mod Places
pub mod Rest
