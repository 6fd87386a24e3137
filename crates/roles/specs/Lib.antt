-- The roles, and what each may do.
pub mod Roles
