-- The day is in the calendar, and its date is that whose year and month the loops found. Assumes nothing.
use Rattle.std.proofs.Common.{arith, sym}
use Rattle.calendar.proofs.Counting.{month-range}
use Rattle.calendar.proofs.Days.{day-passed}
use Rattle.calendar.proofs.Inverse.{walked, date-taken}
use Rattle.calendar.proofs.date.Goals as goal

pub year_at-year-requires : goal.year_at-year-requires
year_at-year-requires c = omega (arith, day-passed c.args.day (sym c.in_ok-day_refused.ensures))

pub overflow_add-result : goal.overflow_add-result
overflow_add-result c = omega (arith, month-range c.year_at-year.result.number c.month_at-month.result.number)

pub returns : goal.returns
returns c = sym (date-taken c.args.day (day-passed c.args.day (sym c.in_ok-day_refused.ensures)) (walked c.year_at-year.ensures c.month_at-month.ensures (omega arith)))
