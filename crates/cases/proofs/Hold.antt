-- The one theorem on the starred cases: the checker computes every row's answer from the definitions and compares it with the row's. Assumes nothing.
use mathlib.Core.Path.{◌≡◌, refl}
use mathlib.Core.Bool.{true}
use Rattle.cases.specs.Cases.{cases, all_hold}

pub cases-hold : all_hold cases ≡ true
unfolding cases all_hold
cases-hold = refl
