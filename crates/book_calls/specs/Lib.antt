-- What the calls on a book or a cue give a role.
pub mod Calls
