-- What the program prints.
pub mod Entries
