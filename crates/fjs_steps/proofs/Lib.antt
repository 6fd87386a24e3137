-- The engine's steps are right, their bound, what aba costs in n letters a, the moves along the run and in a lent list, what the list of them is like, and the entries that a search reads.
pub mod Sound
pub mod Bound
pub mod Aba
pub mod Moves
pub mod MoveLists
pub mod Follow
pub mod Scratch
