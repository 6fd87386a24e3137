-- The laws of a group as it is gathered, looked for and put, of the walk over the groups, of a call, and demand 2.
pub mod Gathering
pub mod Searching
pub mod Putting
pub mod Walking
pub mod Calls
pub mod Demand2
