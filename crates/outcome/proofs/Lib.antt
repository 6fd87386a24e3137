-- The laws of choosing, judging, placing and writing, of the groups and a walk by them, of a whole call, of the cues that do not play, and the resolver's law of a fold.
pub mod Choosing
pub mod Judging
pub mod Placing
pub mod Grouping
pub mod Calls
pub mod Alone
pub mod Law
