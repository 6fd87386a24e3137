-- Demand 3, for a caller of method 4: a find that is not refused returns exactly the comparisons of FJS's steps, and for aba in n letters a exactly 3n - 6, whatever the lent
-- memory; and every find returns at most 3n - 2m where m ≤ n, a refused one 0. All follow from the promise of `find::find` and the engine's laws. Assumes nothing.
use mathlib.Core.Path.{◌≡◌}
use Prim.Native.Nat.{ℕ, ◌-◌, ◌*◌, ◌≤◌}
use native.Mathlib.Omega.{arith}
use mathlib.Core.List.{List}
use lib.ListN.{length, replicate}
use Rattle.matching.specs.declared.Finding.{Finding}
use Rattle.matching.specs.Find.{compared}
use Rattle.matching.proofs.Find.{found-compared, found-most}
use Rattle.fjs_steps.specs.Fjs.{fjs}
use Rattle.fjs_steps.proofs.Bound.{bound}
use Rattle.fjs_steps.proofs.Aba.{aba, aba-found}
use Rattle.find.specs.Find.{engine_of, Answered}

pub method-4-exact : {P T scratch list : List ℕ} {r : Finding} {scratch' list' : List ℕ} → Answered 4 P T scratch list r scratch' list' → r.refusal ≡ 0 → r.comparisons ≡ compared fjs P T
unfolding engine_of
method-4-exact a z = found-compared (a.found (omega arith)) z

pub method-4-bounded : {P T scratch list : List ℕ} {r : Finding} {scratch' list' : List ℕ} → Answered 4 P T scratch list r scratch' list' → length P ≤ length T
    → r.comparisons ≤ 3 * length T - 2 * length P
unfolding engine_of
method-4-bounded {P} {T} a h = found-most (a.found (omega arith)) (λ some. bound P T some h)

pub method-4-aba : (a b n : ℕ) → (a ≡ b → ⊥) → 3 ≤ n → {scratch list : List ℕ} {r : Finding} {scratch' list' : List ℕ} → Answered 4 (aba a b) (replicate n a) scratch list r scratch' list' → r.refusal ≡ 0
    → r.comparisons ≡ 3 * n - 6
unfolding engine_of
method-4-aba a b n differ h answered z = aba-found a b differ n h (answered.found (omega arith)) z
