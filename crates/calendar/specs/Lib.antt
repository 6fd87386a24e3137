-- The calendar: its dates and their numbers, and the tests of a day and of two days; and what this crate's own loops find.
pub mod Calendar
pub mod Found
