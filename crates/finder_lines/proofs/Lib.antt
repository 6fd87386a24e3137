-- The laws of decimal digits and of fields, and the lengths of lines.
pub mod Decimal
pub mod Fields
pub mod Lengths
