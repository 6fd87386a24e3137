-- The digits of a number as its field has them, and the entries laid one after another.
pub mod Digits
pub mod Laying
