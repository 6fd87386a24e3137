-- The days are those of the months before m, which is not past the month.
use Rattle.std.proofs.Common.{◌≡◌, ◌-◌, ◌≤◌}
use Rattle.calendar.specs.Calendar.{months_days}
use Rattle.calendar.proofs.days_before_month.Given as goal

abbrev pub invariant-loop-m : goal.invariant-loop-m
invariant-loop-m l = record { summed : l.days ≡ months_days l.year (l.m - 1); inside : l.m - 1 ≤ l.month - 1 }
