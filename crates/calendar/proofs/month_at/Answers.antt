-- A month that is over is taken off; after November it is December, the last that the days of the year reach. Assumes nothing.
use Rattle.std.proofs.Common.{◌≡◌, ◌+◌, ◌-◌, arith, refl}
use Rattle.calendar.specs.Calendar.{months_days}
use Rattle.calendar.proofs.Counting.{months-more, year-months}
use Rattle.calendar.proofs.month_at.Goals as goal

pub loop-month-init : goal.loop-month-init
unfolding months_days
loop-month-init c = omega arith

pub loop-month-preserved : goal.loop-month-preserved
loop-month-preserved c = omega (arith, months-more c.args.year c.loop-month.month (c.loop-month.month + 1 - 1) (omega arith) (omega arith))

pub returns : goal.returns
returns c =
    let last : c.loop-month.month ≡ 12 = omega arith in
    let now = rw last at c.loop-month.invariant in
    record { first = omega arith; last = omega arith; before = now; inside = omega (arith, now, months-more c.args.year 12 12 (omega arith) refl, year-months c.args.year) }
