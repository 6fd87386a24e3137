-- What a reader of `relist`'s contract must believe, beside the cut and its refusals: the three kinds of places, and what is given and left.
pub mod LateCuts
pub mod Asked
