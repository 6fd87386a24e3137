-- What follows from the promise of a find by a method number.
pub mod Agree
pub mod Demand3
pub mod KmpBound
pub mod Joined
pub mod Methods
