-- The days are those of the years from 2000 before y, which is not past the year.
use Rattle.std.proofs.Common.{◌≡◌, ◌-◌, ◌≤◌}
use Rattle.calendar.specs.Calendar.{years_days}
use Rattle.calendar.proofs.days_before_year.Given as goal

abbrev pub invariant-loop-y : goal.invariant-loop-y
invariant-loop-y l = record { summed : l.days ≡ years_days (l.y - 2000); inside : l.y - 2000 ≤ l.year - 2000 }
