-- The days of the months before this one and the days left are the day of the year.
use Rattle.std.proofs.Common.{◌≡◌, ◌+◌, ◌-◌}
use Rattle.calendar.specs.Calendar.{months_days}
use Rattle.calendar.proofs.month_at.Given as goal

abbrev pub invariant-loop-month : goal.invariant-loop-month
invariant-loop-month l = months_days l.year (l.month - 1) + l.days ≡ l.day
