-- The engine's published steps with the value that `Found` is told, and what its find asks of its search.
pub mod ImprovedFjs
pub mod Search
