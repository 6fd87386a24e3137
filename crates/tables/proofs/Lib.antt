-- The laws of this crate that others cite.
pub mod Tables
