-- What engines cite of DELTA2: a move by its rule passes over no occurrence. Shown from the rule alone, never from how the table is filled. Assumes nothing.
use mathlib.Core.Path.{◌≡◌, sym, ◌∙◌}
use Prim.Native.Nat.{ℕ, ◌+◌, ◌-◌, ◌≤◌, ◌<◌}
use native.Mathlib.Omega.{arith}
use mathlib.Core.List.{List}
use lib.ListN.{length}
use Rattle.matching.proofs.CaseAnalysis.{at_same}
use Rattle.matching.proofs.Occurrences.{Stands}
use Rattle.suffix_tables.specs.Delta2.{letter, shift}
use Rattle.suffix_tables.proofs.Delta2.{shift_rule}

-- letter j of the window at s is unequal, and all after it are equal: an occurrence at k before the shift's end would make k - s a smaller shift that fits
pub delta2-safe : (P T : List ℕ) (s j : ℕ) → 1 ≤ j → j ≤ length P → ((i : ℕ) → j < i → i ≤ length P → letter P i ≡ letter T (s + i)) → (letter P j ≡ letter T (s + j) → ⊥)
    → (k : ℕ) → s < k → k < s + shift P j → Stands P T k → ⊥
delta2-safe P T s j 1≤ ≤m equal differs k h l st =
    (shift_rule P j (omega arith) ≤m).none (k - s) (omega arith) (omega arith)
    (record {
      again = λ i a b c. st.letters (i - (k - s) - 1) (omega arith) ∙ at_same T (omega arith) ∙ sym (equal i a b);
      differs = λ c e. differs (sym e ∙ st.letters (j - (k - s) - 1) (omega arith) ∙ at_same T (omega arith));
    })
