-- What the finder program prints.
pub mod Printed
