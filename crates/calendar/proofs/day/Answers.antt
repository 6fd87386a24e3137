-- The sum is at most the last day. Assumes nothing.
use Rattle.std.proofs.Common.{arith, sym}
use Rattle.calendar.proofs.Inverse.{day-parts}
use Rattle.calendar.proofs.day.Goals as goal

pub overflow_add-result : goal.overflow_add-result
overflow_add-result c = omega (arith, day-parts c.args.year c.args.month c.args.day (sym c.if-not-in_calendar.ensures))

pub overflow_add-result-2 : goal.overflow_add-result-2
overflow_add-result-2 c = omega (arith, day-parts c.args.year c.args.month c.args.day (sym c.if-not-in_calendar.ensures))
