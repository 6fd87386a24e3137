-- What a walk for a group of phrases promises, and what the automaton's own functions ask of each other.
pub mod Locate
pub mod Walk
pub mod Words
