-- Document 02, (xii), for a caller of method 1: every find returns at most 2n - m comparisons where m ≤ n, a refused one 0; and one that is not refused returns exactly 2n - m
-- for m - 1 letters a and a b in n letters a, m from 2 to n, whatever the lent memory and however short the list. Both follow from the promise of `find::find` and the
-- engine's laws. Assumes nothing.
use mathlib.Core.Path.{◌≡◌}
use Prim.Native.Nat.{ℕ, ◌-◌, ◌*◌, ◌≤◌}
use native.Mathlib.Omega.{arith}
use mathlib.Core.List.{List}
use lib.ListN.{length, replicate}
use Rattle.matching.specs.declared.Finding.{Finding}
use Rattle.matching.proofs.Find.{found-most}
use Rattle.kmp.proofs.Bound.{bound}
use Rattle.kmp.proofs.Exact.{aaab}
use Rattle.kmp.proofs.ExactFound.{aaab-found}
use Rattle.find.specs.Find.{engine_of, Answered}

pub method-1-bounded : {P T scratch list : List ℕ} {r : Finding} {scratch' list' : List ℕ} → Answered 1 P T scratch list r scratch' list' → length P ≤ length T
    → r.comparisons ≤ 2 * length T - length P
unfolding engine_of
method-1-bounded {P} {T} a h = found-most (a.found (omega arith)) (λ some. bound P T some h)

pub method-1-aaab : (a b m n : ℕ) → (a ≡ b → ⊥) → 2 ≤ m → m ≤ n → {scratch list : List ℕ} {r : Finding} {scratch' list' : List ℕ} → Answered 1 (aaab m a b) (replicate n a) scratch list r scratch' list'
    → r.refusal ≡ 0 → r.comparisons ≡ 2 * n - m
unfolding engine_of
method-1-aaab a b m n differ two fits answered z = aaab-found a b differ m n two fits (answered.found (omega arith)) z
