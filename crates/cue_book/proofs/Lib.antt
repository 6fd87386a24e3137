-- The laws of books.
pub mod Books
