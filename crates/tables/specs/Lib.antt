-- What tables of any rule have in common, and what a maker leaves.
pub mod Tables
