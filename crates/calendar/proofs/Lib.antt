-- The laws of the calendar: of the days counted, of the two conversions, and of the refusals of days.
pub mod Counting
pub mod Inverse
pub mod Days
