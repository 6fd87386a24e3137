-- FJS's steps are right at every window whose carried letters are equal, by the laws of its two tables. First the step and its window by their cases, in terms of `reach`: how many letters are
-- equal from the window's start on. Assumes nothing.
use mathlib.Core.Path.{◌≡◌, refl, sym, ap, ◌∙◌}
use Prim.Native.Nat.{ℕ, zero, suc, ◌+◌, ◌-◌, ◌≤◌, min}
use native.Mathlib.Omega.{arith}
use native.Mathlib.Nat.{add-zero}
use mathlib.Core.Bool.{false, cond}
use mathlib.Core.List.{List}
use lib.ListN.{length, get_or, drop}
use lib.Dec.{eqb}
use borrow.Author.Tests.{eqb-true, eqb-false, eq-eqb, ne_eqb}
use Rattle.matching.specs.Letters.{equal_on, reach, looks}
use Rattle.matching.specs.Machine.{first_to_last}
use Rattle.matching.proofs.CaseAnalysis.{by-test, at_same}
use Rattle.matching.proofs.Letters.{pairs-take, reach-le, reach-differs, reach-reports, looks-le}
use Rattle.matching.proofs.Machine.{Carries, Right, Sound, right-up}
use Rattle.letter_tables.specs.Moves.{sunday_move}
use Rattle.border_tables.specs.Moves.{kmp_move}
use Rattle.letter_tables.proofs.Moves.{sunday-right}
use Rattle.border_tables.proofs.Moves.{kmp-moves}
use Rattle.fjs_steps.specs.Fjs.{Step, end_equal, before, ended, fresh, carried, step, window}

-- ---- the step by its cases

module _ (P T : List ℕ) (s : ℕ) where
  step-none : step P T s 0 ≡ cond (end_equal P T s) (fresh P T s) (ended P T s)
  unfolding step
  step-none = refl

  -- with nothing carried, and the last letter unequal
  pub step_end : (get_or P (length P - 1) 0 ≡ get_or T (s + (length P - 1)) 0 → ⊥) → step P T s 0 ≡ ended P T s
  step_end differs = step-none ∙ ap (λ t. cond t (fresh P T s) (ended P T s)) (ne_eqb (get_or P (length P - 1) 0) (get_or T (s + (length P - 1)) 0) differs)

  -- and the last letter equal
  pub step-fresh : get_or P (length P - 1) 0 ≡ get_or T (s + (length P - 1)) 0 → step P T s 0 ≡ fresh P T s
  step-fresh equal = step-none ∙ ap (λ t. cond t (fresh P T s) (ended P T s)) (eq-eqb (get_or P (length P - 1) 0) (get_or T (s + (length P - 1)) 0) equal)

  -- with a part match carried
  pub step-carried : (q : ℕ) → 1 ≤ q → step P T s q ≡ carried P T s q
  unfolding step
  step-carried zero h = absurd (omega arith)
  step-carried (suc q) h = refl

  window-is : (q : ℕ) {x : Step} → step P T s q ≡ x → window P T s q ≡ x.window
  unfolding window
  window-is q e = ap (λ x. x.window) e

  pub window-end : (get_or P (length P - 1) 0 ≡ get_or T (s + (length P - 1)) 0 → ⊥) → window P T s 0 ≡ record { compared = 1; stands = false; next = sunday_move P T s }
  window-end differs = window-is 0 (step_end differs)

  pub window-carried : (q : ℕ) → 1 ≤ q → window P T s q ≡ first_to_last P T s q (kmp_move P s (reach P T s q))
  window-carried q h = window-is q (step-carried q h)

  module _ (some : 1 ≤ length P) (inside : s + length P ≤ length T) (equal : get_or P (length P - 1) 0 ≡ get_or T (s + (length P - 1)) 0) where
    -- with nothing carried, and the last letter equal: letters 1 to m - 1 reach as far as the whole pattern does, but for the last letter itself
    before-is : before P T s ≡ min (length P - 1) (reach P T s 0)
    unfolding equal_on
    before-is = pairs-take (length P - 1) P (drop s T) ∙ rw add-zero (omega arith)

    not_last : reach P T s 0 ≡ length P - 1 → ⊥
    not_last e = reach-differs P T s 0 inside (omega arith) (at_same P e ∙ equal ∙ at_same T (omega arith))

    all-before : eqb (before P T s) (length P - 1) ≡ eqb (reach P T s 0) (length P)
    all-before =
        let le : reach P T s 0 ≤ length P = reach-le P T s 0 (omega arith) in
        by-test (λ t. eqb (before P T s) (length P - 1) ≡ t) (eqb (reach P T s 0) (length P))
        (λ e. eq-eqb (before P T s) (length P - 1) (omega (arith, before-is, eqb-true (reach P T s 0) (length P) e)))
        (λ e. ne_eqb (before P T s) (length P - 1) (λ f. not_last (omega (arith, before-is, eqb-false (reach P T s 0) (length P) e))))

    reached : cond (eqb (before P T s) (length P - 1)) (length P) (before P T s) ≡ reach P T s 0
    reached =
        let le : reach P T s 0 ≤ length P = reach-le P T s 0 (omega arith) in
        rw all-before
        (by-test (λ t. eqb (reach P T s 0) (length P) ≡ t → cond t (length P) (before P T s) ≡ reach P T s 0) (eqb (reach P T s 0) (length P))
        (λ _ e. sym (eqb-true (reach P T s 0) (length P) e))
        (λ _ e. omega (arith, before-is, eqb-false (reach P T s 0) (length P) e, not_last))
        refl)

    pub window-fresh : window P T s 0 ≡ record { compared = suc (looks (length P - 1) (min (length P - 1) (reach P T s 0))); stands = eqb (reach P T s 0) (length P); next = kmp_move P s (reach P T s 0) }
    window-fresh = window-is 0 (step-fresh equal) ∙ rw (reached, all-before, before-is)

-- ---- every window is right

right-none : (P T : List ℕ) (s : ℕ) → s + length P ≤ length T → Carries P T s 0 → Right P T s (window P T s 0)
right-none P T s inside c =
    let some : 1 ≤ length P = c.part in
    let p : ℕ = get_or P (length P - 1) 0 in
    let t : ℕ = get_or T (s + (length P - 1)) 0 in
    by-test (λ _. Right P T s (window P T s 0)) (eqb p t)
    (λ e.
    rw (window-fresh P T s some inside (eqb-true p t e))
    (record {
      reports = reach-reports P T s 0 inside some c.meets;
      few = omega (arith, looks-le (length P - 1) (min (length P - 1) (reach P T s 0)) (omega arith));
      moves = kmp-moves P T s 0 inside c;
    }))
    (λ e. rw (window-end P T s (eqb-false p t e)) (sunday-right P T s (length P - 1) (omega arith) (eqb-false p t e)))

pub sound : (P T : List ℕ) → 1 ≤ length P → Sound window P T
sound P T h = record { some = h; right = right }
  where
    right : (s q : ℕ) → s + length P ≤ length T → Carries P T s q → Right P T s (window P T s q)
    right s zero inside c = right-none P T s inside c
    right s (suc q) inside c = rw (window-carried P T s (suc q) (omega arith)) (right-up inside (kmp-moves P T s (suc q) inside c) c)
