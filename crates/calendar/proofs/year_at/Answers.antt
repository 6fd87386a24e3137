-- A year that is over is taken off; after 2098 the year is 2099, the last that the days reach. Assumes nothing.
use Rattle.std.proofs.Common.{◌≡◌, ◌+◌, ◌-◌, arith}
use Rattle.calendar.specs.Calendar.{years_days}
use Rattle.calendar.proofs.Counting.{years-more, all-days}
use Rattle.calendar.proofs.year_at.Goals as goal

pub loop-year-init : goal.loop-year-init
unfolding years_days
loop-year-init c = omega arith

pub loop-year-preserved : goal.loop-year-preserved
loop-year-preserved c = omega (arith, years-more c.loop-year.year (c.loop-year.year + 1 - 2000) (omega arith) (omega arith))

pub returns : goal.returns
returns c =
    let last : c.loop-year.year ≡ 2099 = omega arith in
    let now = rw last at c.loop-year.invariant in
    record { since = omega arith; before = now; inside = omega (arith, now, years-more 2099 100 (omega arith) (omega arith), all-days) }
