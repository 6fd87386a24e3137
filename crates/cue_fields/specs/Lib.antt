-- A field: its bytes, and what reading it gives; and fields in the order of a list.
pub mod Field
pub mod Form
