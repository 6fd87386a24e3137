-- An engine's line from a find by the engine's method number. Assumes nothing.
use mathlib.Core.Path.{◌≡◌}
use Prim.Native.Nat.{ℕ, zero, suc, ◌≤◌}
use native.Mathlib.Omega.{arith}
use mathlib.Core.List.{List}
use lib.ListN.{length}
use Rattle.matching.specs.declared.Finding.{Finding}
use Rattle.matching.specs.Find.{refusal}
use Rattle.find.specs.Find.{engine_of, Answered}
use Rattle.finder_lines.specs.Lines.{line_of}
use Rattle.finder_answer.specs.Answered.{engine_line}
use Rattle.finder_answer.proofs.Rows.{engine-found}

-- 2,306 scratch entries are enough for methods 0 to 7
entries-enough : (method m : ℕ) → method ≤ 7 → m ≤ 1024 → (engine_of method).entries m ≤ 2306
unfolding engine_of
entries-enough zero m h k = omega arith
entries-enough (suc zero) m h k = omega arith
entries-enough (suc (suc zero)) m h k = omega arith
entries-enough (suc (suc (suc zero))) m h k = omega arith
entries-enough (suc (suc (suc (suc zero)))) m h k = omega arith
entries-enough (suc (suc (suc (suc (suc zero))))) m h k = omega arith
entries-enough (suc (suc (suc (suc (suc (suc zero)))))) m h k = omega arith
entries-enough (suc (suc (suc (suc (suc (suc (suc zero))))))) m h k = omega arith
entries-enough (suc (suc (suc (suc (suc (suc (suc (suc method)))))))) m h k = absurd (omega arith)

-- the line of what a find gave and left is the engine's
pub found-line : {method : ℕ} {P T scratch list : List ℕ} {r : Finding} {scratch' list' : List ℕ} (name : List ℕ) → Answered method P T scratch list r scratch' list' → method ≤ 7
    → length scratch ≡ 2306 → length list ≡ 4096 → refusal (length P) (length T) 0 0 ≡ 0
    → line_of name r.total r.comparisons list' ≡ engine_line (record { name = name; engine = engine_of method }) P T
found-line {method} {P} name a low long places none = engine-found (engine_of method) name (λ short. entries-enough method (length P) low short) (a.found low) long places none
