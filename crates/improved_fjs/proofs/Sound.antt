-- The improved FJS engine's steps are right at every window whose carried letters are equal, by the laws of its tables. First the window by its cases. Assumes nothing.
use mathlib.Core.Path.{◌≡◌, refl, ap, ◌∙◌}
use Prim.Native.Nat.{ℕ, zero, suc, ◌+◌, ◌-◌, ◌≤◌}
use native.Mathlib.Omega.{arith}
use mathlib.Core.Bool.{cond}
use mathlib.Core.List.{List}
use lib.ListN.{length, get_or}
use lib.Dec.{eqb}
use borrow.Author.Tests.{eqb-true, eqb-false, eq-eqb, ne_eqb}
use Rattle.matching.specs.Letters.{equal_on}
use Rattle.matching.proofs.CaseAnalysis.{by-test}
use Rattle.matching.proofs.Letters.{reach-le, reach-reports, looks-le}
use Rattle.matching.proofs.Machine.{Carries, Right, Sound, right-up}
use Rattle.letter_tables.specs.Gaps.{mdp}
use Rattle.letter_tables.proofs.Gaps.{widest_at-le, widest_at-some}
use Rattle.letter_tables.proofs.Moves.{sunday-right}
use Rattle.border_tables.proofs.Moves.{kmp-moves, max-moves}
use Rattle.improved_fjs.specs.ImprovedFjs.{gap_equal, gap_differs, fresh, carried, window}

-- letter mdp of the window at s is equal
abbrev pub Equal : List ℕ → List ℕ → ℕ → Type 0
Equal P T s = get_or P (mdp P - 1) 0 ≡ get_or T (s + (mdp P - 1)) 0

-- ---- the window by its cases

module _ (P T : List ℕ) (s : ℕ) where
  window-none : window P T s 0 ≡ cond (gap_equal P T s) (fresh P T s) (gap_differs P T s)
  unfolding window
  window-none = refl

  -- with nothing carried, and letter mdp unequal or equal
  pub window-differs : (Equal P T s → ⊥) → window P T s 0 ≡ gap_differs P T s
  window-differs differs = window-none ∙ ap (λ t. cond t (fresh P T s) (gap_differs P T s)) (ne_eqb (get_or P (mdp P - 1) 0) (get_or T (s + (mdp P - 1)) 0) differs)

  pub window-fresh : Equal P T s → window P T s 0 ≡ fresh P T s
  window-fresh equal = window-none ∙ ap (λ t. cond t (fresh P T s) (gap_differs P T s)) (eq-eqb (get_or P (mdp P - 1) 0) (get_or T (s + (mdp P - 1)) 0) equal)

  -- with a part match carried
  pub window-carried : (q : ℕ) → 1 ≤ q → window P T s q ≡ carried P T s q
  unfolding window
  window-carried zero h = absurd (omega arith)
  window-carried (suc q) h = refl

-- ---- every window is right

-- letter mdp is one of the pattern's
pub gap-inside : (P : List ℕ) → 1 ≤ length P → (1 ≤ mdp P) × (mdp P ≤ length P)
gap-inside P some = (widest_at-some P (length P) some, widest_at-le P (length P))

right-none : (P T : List ℕ) (s : ℕ) → s + length P ≤ length T → Carries P T s 0 → Right P T s (window P T s 0)
right-none P T s inside c =
    let some : 1 ≤ length P = c.part in
    let p : ℕ = get_or P (mdp P - 1) 0 in
    let t : ℕ = get_or T (s + (mdp P - 1)) 0 in
    by-test (λ _. Right P T s (window P T s 0)) (eqb p t)
    (λ e.
    rw (window-fresh P T s (eqb-true p t e))
    (record {
      reports = reach-reports P T s 0 inside some c.meets;
      few = omega (arith, looks-le (length P - 0) (equal_on P T s 0) (omega (arith, reach-le P T s 0 (omega arith))));
      moves = max-moves P T s inside some (eqb-true p t e);
    }))
    (λ e. rw (window-differs P T s (eqb-false p t e)) (sunday-right P T s (mdp P - 1) (omega (arith, gap-inside P some)) (eqb-false p t e)))

pub sound : (P T : List ℕ) → 1 ≤ length P → Sound window P T
sound P T h = record { some = h; right = right }
  where
    right : (s q : ℕ) → s + length P ≤ length T → Carries P T s q → Right P T s (window P T s q)
    right s zero inside c = right-none P T s inside c
    right s (suc q) inside c = rw (window-carried P T s (suc q) (omega arith)) (right-up inside (kmp-moves P T s (suc q) inside c) c)
