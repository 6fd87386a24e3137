-- A place moved by the signed change of length: where it is not before the stretch's end, the sum is a place of the new text (`moved-exact`, `moved_inside`), and the new letters can be
-- added and the stretch's taken away one after the other (`moved_sum`). Assumes nothing.
use mathlib.Core.Path.{◌≡◌, sym, ap, subst, ◌∙◌}
use Prim.Native.Nat.{ℕ, zero, suc, ◌+◌, ◌-◌, ◌≤◌, ◌<◌}
use native.Mathlib.Omega.{arith}
use mathlib.Core.Bool.{cond}
use mathlib.Core.List.{List}
use lib.ListN.{length}
use lib.Dec.{ltb, le→leb}
use lib.IntN.{ℤ, pos, negsuc, nat_abs, ◌+ℤ◌, ◌-ℤ◌}
use lib.Signed.{mag, ◌≤ℤ◌, le_z_yes}
use borrow.Author.Tests.{ltb-true, ltb-false, le-ltb}
use Rattle.matching.proofs.CaseAnalysis.{by-test}
use Rattle.cuts.specs.Cuts.{Cut, new_text}
use Rattle.cuts.proofs.Calls.{length-new}
use Rattle.late_cuts.specs.LateCuts.{change, moved_by}
use Rattle.late_cuts.specs.Asked.{Moves}

-- a difference added to a number that is no smaller than what it takes away
pub sum-plain : (k a b : ℕ) → b ≤ k → pos k +ℤ (pos a -ℤ pos b) ≡ pos (k + a - b)
sum-plain k a zero h = ap pos (omega arith)
sum-plain k a (suc b) h =
    by-test (λ t. pos k +ℤ cond t (negsuc (suc b - suc a)) (pos (a - suc b)) ≡ pos (k + a - suc b)) (ltb a (suc b))
    (λ e.
    let l : a < suc b = ltb-true a (suc b) e in
    rw (le-ltb k (suc (suc b - suc a)) (omega arith)) (ap pos (omega arith)))
    (λ e. let l : suc b ≤ a = ltb-false a (suc b) e in ap pos (omega arith))

-- a difference of two numbers up to n is no further than n from 0
pub difference-small : (a b n : ℕ) → a ≤ n → b ≤ n → mag (pos a -ℤ pos b) ≤ n
difference-small a zero n h k = omega arith
difference-small a (suc b) n h k =
    by-test (λ t. mag (cond t (negsuc (suc b - suc a)) (pos (a - suc b))) ≤ n) (ltb a (suc b)) (λ _. omega arith) (λ _. omega arith)

-- nor is a sum further than both
pub sum-small : (k : ℕ) (z : ℤ) → mag (pos k +ℤ z) ≤ k + mag z
sum-small k (pos a) = omega arith
sum-small k (negsuc b) = by-test (λ t. mag (cond t (negsuc (suc b - suc k)) (pos (k - suc b))) ≤ k + b) (ltb k (suc b)) (λ e. omega (arith, ltb-true k (suc b) e)) (λ _. omega arith)

-- what the code asks of a place that is moved
pub moves_so : (gained lost k : ℕ) {by : ℤ} → by ≡ pos gained -ℤ pos lost → lost ≤ k → k ≤ 32768 → gained ≤ 32768 → Moves k by
moves_so gained lost k is h small new =
    rw is
    (record {
      small = small;
      change = difference-small gained lost 32768 new (omega arith);
      above = subst (λ (z : ℤ). pos 0 ≤ℤ z) (sym (sum-plain k gained lost h)) (le_z_yes (le→leb 0 (k + gained - lost) (omega arith)));
    })

-- as a number
pub moved_sum : (gained lost k : ℕ) → lost ≤ k → moved_by (pos gained -ℤ pos lost) k ≡ k + gained - lost
moved_sum gained lost k h = ap nat_abs (sum-plain k gained lost h)

module _ (T : List ℕ) (c : Cut) (k : ℕ) (ordered : c.start ≤ c.end) (after : c.end ≤ k) where
  -- the sum is not negative, so nothing is lost where it is taken as a place
  pub moved-exact : pos (moved_by (change c) k) ≡ pos k +ℤ change c
  moved-exact = let e = sum-plain k (length c.letters) (c.end - c.start) (omega arith) in ap (λ (z : ℤ). pos (nat_abs z)) e ∙ sym e

  -- as a number: the place less the stretch's letters and with the new ones
  pub moved-is : moved_by (change c) k ≡ k + length c.letters - (c.end - c.start)
  moved-is = moved_sum (length c.letters) (c.end - c.start) k (omega arith)

  -- the phrase stays within the new text where it was within the old one
  pub moved_inside : (m : ℕ) → k + m ≤ length T → moved_by (change c) k + m ≤ length (new_text T c)
  moved_inside m inside = omega (arith, moved-is, length-new T c (omega arith))
