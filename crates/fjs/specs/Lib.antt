-- What a find with a list of moves gives, and what the two public functions ask of their shared search.
pub mod Listed
pub mod Search
