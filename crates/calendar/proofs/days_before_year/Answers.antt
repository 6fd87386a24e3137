-- One year more, and the sum is at most the days of all the years. Assumes nothing.
use Rattle.std.proofs.Common.{◌≡◌, ◌+◌, ◌-◌, suc, arith, refl, ap, ◌∙◌}
use Rattle.calendar.specs.Calendar.{years_days}
use Rattle.calendar.proofs.Counting.{years-more, years-up, all-days}
use Rattle.calendar.proofs.days_before_year.Goals as goal

pub loop-y-init : goal.loop-y-init
unfolding years_days
loop-y-init c = record { summed = refl; inside = omega arith }

pub loop-y-preserved : goal.loop-y-preserved
loop-y-preserved c = record { summed = omega (arith, years-more c.loop-y.y (c.loop-y.y + 1 - 2000) (omega arith) (omega arith)); inside = omega arith }

pub overflow_add-days : goal.overflow_add-days
overflow_add-days c =
    let y = c.loop-y.y in
    omega (arith, years-more y (suc (y - 2000)) (omega arith) refl, years-up (suc (y - 2000)) 100 (omega arith), all-days)

pub returns : goal.returns
returns c = let all : c.loop-y.y - 2000 ≡ c.args.year - 2000 = omega arith in c.loop-y.invariant.summed ∙ ap years_days all
