-- The days of the years from 2000 before this one and the days left are the day.
use Rattle.std.proofs.Common.{◌≡◌, ◌+◌, ◌-◌}
use Rattle.calendar.specs.Calendar.{years_days}
use Rattle.calendar.proofs.year_at.Given as goal

abbrev pub invariant-loop-year : goal.invariant-loop-year
invariant-loop-year l = years_days (l.year - 2000) + l.days ≡ l.day
