-- What passes where an answer is an enum.
pub mod Plain
