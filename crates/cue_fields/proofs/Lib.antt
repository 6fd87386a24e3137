-- The laws of a field, of fields in the order of a list, and of a book read field by field.
pub mod Fields
pub mod Form
pub mod Steps
