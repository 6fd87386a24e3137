-- The refusals of days: what holds where none refuses, and where one does. Assumes nothing.
use mathlib.Core.Path.{◌≡◌, refl}
use Prim.Native.Nat.{ℕ, ◌≤◌, ◌<◌}
use native.Mathlib.Omega.{arith}
use mathlib.Core.Bool.{cond}
use lib.Dec.{ltb}
use borrow.Author.Tests.{ltb-true, ltb-false, le-ltb}
use Rattle.matching.specs.Refusals.{first_met}
use Rattle.matching.proofs.Refusals.{Passed, numbers_to, all-passed}
use Rattle.matching.proofs.CaseAnalysis.{by-test}
use Rattle.calendar.specs.Calendar.{last_day, day_tests, day_refusal, days_tests, days_refusal}

module _ (day : ℕ) where
  -- a day that is not refused is in the calendar, and back
  pub day-passed : day_refusal day ≡ 0 → day ≤ last_day
  unfolding day_refusal Passed numbers_to
  day-passed e = ltb-false last_day day (all-passed 16 (day_tests day) refl e).0

  pub day-passes : day ≤ last_day → day_refusal day ≡ 0
  unfolding day_refusal first_met
  day-passes h = rw (le-ltb last_day day h)

  -- one that is refused is past the last
  pub day-late : 1 ≤ day_refusal day → (last_day < day) × (day_refusal day ≡ 16)
  unfolding day_refusal first_met
  day-late h =
      by-test (λ t. let n : ℕ = cond t 16 0 in 1 ≤ n → (last_day < day) × (n ≡ 16)) (ltb last_day day)
      (λ t _. (ltb-true last_day day t, refl))
      (λ _ some. absurd (omega arith))
      h

module _ (first last : ℕ) where
  -- a first and a last day that are not refused are in their order and in the calendar, and back
  pub days-passed : days_refusal first last ≡ 0 → (first ≤ last) × (last ≤ last_day)
  unfolding days_refusal Passed numbers_to
  days-passed e = let p = all-passed 16 (days_tests first last) refl e in (ltb-false last first p.1.1.0, ltb-false last_day last p.1.0)

  pub days-pass : first ≤ last → last ≤ last_day → days_refusal first last ≡ 0
  unfolding days_refusal first_met
  days-pass order h = rw (le-ltb last_day first (omega arith), le-ltb last_day last h, le-ltb last first order)
