-- The engine's published steps, the value that `Found` is told, and what its private functions ask of the scratch.
pub mod BoyerMoore
pub mod Made
