-- What the exact costs say of a find that is not refused: it returns that number, whatever the lent memory and however short the list. It has a file of its own so that a wrong bound
-- on m in `Exact` is refused there alone. Assumes nothing.
use mathlib.Core.Path.{◌≡◌, ◌∙◌}
use Prim.Native.Nat.{ℕ, ◌-◌, ◌*◌, ◌≤◌}
use mathlib.Core.List.{List}
use lib.ListN.{replicate}
use Rattle.matching.specs.declared.Finding.{Finding}
use Rattle.matching.specs.Find.{Found}
use Rattle.matching.proofs.Find.{found-compared}
use Rattle.kmp.specs.Kmp.{kmp}
use Rattle.kmp.proofs.Exact.{aaab, aaab-costs}

module _ (a b : ℕ) (differ : a ≡ b → ⊥) (m n : ℕ) (two : 2 ≤ m) (fits : m ≤ n) where
  pub aaab-found : {scratch list : List ℕ} {r : Finding} {scratch' list' : List ℕ} → Found kmp (aaab m a b) (replicate n a) scratch list r scratch' list' → r.refusal ≡ 0
      → r.comparisons ≡ 2 * n - m
  aaab-found found z = found-compared found z ∙ aaab-costs a b differ m n two fits
