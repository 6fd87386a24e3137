-- Demand 3: for every pattern and text with 1 ≤ m ≤ n, of any lengths, FJS's steps compare at most 3n - 2m pairs (`bound`). Each window pays for its looks at 3 a position:
-- a window at s that carries q letters has looks + q ≤ m, and looks + 3s + q ≤ 3s' + q' where the next is at s' and carries q' (`Pays` of `matching`). The first holds since
-- no carried letter is looked at, the second since a Sunday entry is at least 1 and b[j] is below j. Assumes nothing.
use Prim.Native.Nat.{ℕ, zero, suc, ◌+◌, ◌-◌, ◌≤◌, ◌<◌, min}
use native.Mathlib.Omega.{arith}
use mathlib.Core.List.{List}
use lib.ListN.{length, get_or}
use lib.Dec.{eqb, ltb}
use borrow.Author.Tests.{eqb-true, eqb-false, ltb-true, ltb-false}
use Rattle.matching.specs.Letters.{reach, looks}
use Rattle.matching.specs.Find.{compared}
use Rattle.matching.proofs.CaseAnalysis.{by-test}
use Rattle.matching.proofs.Letters.{looks-le, looks-few}
use Rattle.matching.proofs.Costs.{Paid, Pays, pays-bound}
use Rattle.letter_tables.specs.Moves.{sunday_move}
use Rattle.letter_tables.proofs.BadCharacter.{sunday_entry-pos}
use Rattle.letter_tables.proofs.Moves.{sunday-on, sunday-stop}
use Rattle.border_tables.proofs.Moves.{kmp-paid, kmp-pays}
use Rattle.fjs_steps.specs.Fjs.{window, fjs, Bounded}
use Rattle.fjs_steps.proofs.Sound.{window-end, window-carried, window-fresh, sound}

module _ (P T : List ℕ) (s : ℕ) (inside : s + length P ≤ length T) (some : 1 ≤ length P) where
  paid-sunday : (spent : ℕ) → spent ≤ 3 → Paid 2 spent s (sunday_move P T s)
  paid-sunday spent h =
      by-test (λ _. Paid 2 spent s (sunday_move P T s)) (ltb (s + length P) (length T))
      (λ e. rw (sunday-on P T s (ltb-true (s + length P) (length T) e)) (omega (arith, sunday_entry-pos P (get_or T (s + length P) 0))))
      (λ e. rw (sunday-stop P T s (ltb-false (s + length P) (length T) e)) tt)

  pays : (q : ℕ) → q < length P → Pays 2 P s q (window P T s q)
  pays zero h =
      let p : ℕ = get_or P (length P - 1) 0 in
      let t : ℕ = get_or T (s + (length P - 1)) 0 in
      let r : ℕ = min (length P - 1) (reach P T s 0) in
      let more : ℕ = suc (looks (length P - 1) r) in
      by-test (λ _. Pays 2 P s 0 (window P T s 0)) (eqb p t)
      (λ e.
      rw (window-fresh P T s some inside (eqb-true p t e))
      (record {
        few = omega (arith, looks-le (length P - 1) r (omega arith));
        paid = kmp-paid 2 P s (reach P T s 0) (more + 0) (omega (arith, looks-few (length P - 1) r));
      }))
      (λ e. rw (window-end P T s (eqb-false p t e)) (record { few = omega arith; paid = paid-sunday (1 + 0) (omega arith) }))
  pays (suc q) h = rw (window-carried P T s (suc q) (omega arith)) (kmp-pays 2 P T s (suc q) (omega arith) h)

-- at most 3n - 2m comparisons
pub bound : (P T : List ℕ) → 1 ≤ length P → Bounded P T (compared fjs P T)
bound P T h k = omega (arith, pays-bound fjs (sound P T h) 2 (λ s q inside c. pays P T s inside h q c.part) k)
