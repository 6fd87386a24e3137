-- The numbers of the phrases that end at the letters of a text, the states of a walk that gives them, and what the numbers make of ordinals and places.
pub mod Phrases
pub mod States
pub mod Counts
