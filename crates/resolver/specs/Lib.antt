-- What a resolve promises, and what the resolver asks of its walk over the cues.
pub mod Resolver
pub mod Walking
