-- The engine's steps are right, their bound, and what m - 1 letters a and a b cost in n letters a.
pub mod Sound
pub mod Bound
pub mod Exact
pub mod ExactFound
