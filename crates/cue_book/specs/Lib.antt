-- A book's format; what reading gives on every byte string; where things stand in a book, with the readers' promises; and what the readers ask of their shared walk.
pub mod Book
pub mod Reading
pub mod Places
pub mod Walking
