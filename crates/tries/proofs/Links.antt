-- Two laws of the names in the table. Assumes nothing.
use mathlib.Core.Path.{◌≡◌, refl, sym, ◌∙◌}
use Prim.Native.Nat.{ℕ, ◌≤◌, ◌<◌}
use native.Mathlib.Omega.{arith}
use mathlib.Core.Bool.{false}
use mathlib.Core.List.{List, [], ◌∷◌}
use lib.ListN.{length}
use Rattle.matching.proofs.CaseAnalysis.{by-test}
use Rattle.phrases.specs.States.{known}
use Rattle.tries.specs.Tables.{name, Linked}

module _ {ps names : List (List ℕ)} {done : ℕ} {t : List ℕ} (l : Linked ps names done t) where
  -- only the root's name is empty
  pub long-name : (s : ℕ) → 1 ≤ s → s < length names → 1 ≤ length (name names s)
  long-name s h k = named (name names s) refl
    where
      named : (n : List ℕ) → name names s ≡ n → 1 ≤ length n
      named [] e = absurd (omega (arith, l.trie.once s 0 k (omega arith) (e ∙ sym l.trie.root)))
      named (x ∷ n) e = omega arith

  -- a name that no state has is no prefix of a phrase
  pub unknown : (n : List ℕ) → ((y : ℕ) → y < length names → name names y ≡ n → ⊥) → known ps n ≡ false
  unknown n none = by-test (λ b. b ≡ false) (known ps n) (λ e. let w = l.all n e in absurd (none w.0 w.1.0 w.1.1)) (λ _. refl)
