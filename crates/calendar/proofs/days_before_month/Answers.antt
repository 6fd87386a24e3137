-- One month more, and the sum is at most the days of the year. Assumes nothing.
use Rattle.std.proofs.Common.{◌≡◌, ◌+◌, ◌-◌, arith, refl, ap, ◌∙◌}
use Rattle.calendar.specs.Calendar.{months_days}
use Rattle.calendar.proofs.Counting.{year-range, year-months, months-more, months-up}
use Rattle.calendar.proofs.days_before_month.Goals as goal

pub loop-m-init : goal.loop-m-init
unfolding months_days
loop-m-init c = record { summed = refl; inside = omega arith }

pub loop-m-preserved : goal.loop-m-preserved
loop-m-preserved c = record { summed = omega (arith, months-more c.args.year c.loop-m.m (c.loop-m.m + 1 - 1) (omega arith) (omega arith)); inside = omega arith }

pub overflow_add-days : goal.overflow_add-days
overflow_add-days c =
    let year = c.args.year in
    let m = c.loop-m.m in
    omega (arith, months-more year m m (omega arith) refl, months-up year m 12 (omega arith), year-months year, year-range year)

pub returns : goal.returns
returns c = let all : c.loop-m.m - 1 ≡ c.args.month - 1 = omega arith in c.loop-m.invariant.summed ∙ ap (months_days c.args.year) all
