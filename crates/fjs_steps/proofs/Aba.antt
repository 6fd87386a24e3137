-- Demand 3, exactly: for letters a and b that differ, and every n ≥ 3, aba in n letters a costs exactly 3n - 6 comparisons (`aba-costs`), and a find of it that is not refused
-- returns that number, whatever the lent memory (`aba-found`). Every window looks at its last letter, at its first and at its second, which differs, and moves on by 1.
-- Assumes nothing.
use mathlib.Core.Path.{◌≡◌, sym, ap, ◌∙◌}
use Prim.Native.Nat.{ℕ, ◌+◌, ◌-◌, ◌*◌, ◌≤◌, ◌<◌}
use native.Mathlib.Omega.{arith}
use mathlib.Core.Bool.{false}
use mathlib.Core.List.{List, [], ◌∷◌}
use lib.ListN.{length, get_or, replicate, length-replicate, get_or-replicate}
use borrow.Author.Tests.{ne_eqb}
use Rattle.matching.specs.declared.Finding.{Finding}
use Rattle.matching.specs.Occurrences.{same}
use Rattle.matching.specs.Letters.{reach}
use Rattle.matching.specs.Machine.{Window, at}
use Rattle.matching.specs.Find.{compared, Found}
use Rattle.matching.proofs.Letters.{reach-first, reach-unequal}
use Rattle.matching.proofs.Find.{found-compared}
use Rattle.matching.proofs.Costs.{run-alike}
use Rattle.tables.specs.Tables.{largest}
use Rattle.border_tables.specs.Kmp.{border, strong, kmp_entry}
use Rattle.border_tables.proofs.Moves.{kmp-next}
use Rattle.fjs_steps.specs.Fjs.{window, fjs}
use Rattle.fjs_steps.proofs.Sound.{window-fresh}

abbrev pub aba : ℕ → ℕ → List ℕ
aba a b = a ∷ b ∷ a ∷ []

module _ (a b : ℕ) (differ : a ≡ b → ⊥) where
  -- b[2] is 1: the empty border, with a before b
  second : kmp_entry (aba a b) 1 ≡ 1
  unfolding kmp_entry largest strong border same
  second = rw (ne_eqb a b differ)

  module _ (n : ℕ) where
    letter : (i : ℕ) → i < n → get_or (replicate n a) i 0 ≡ a
    letter i h = get_or-replicate n i a 0 h

    one : (s : ℕ) → s + 3 ≤ n → reach (aba a b) (replicate n a) s 0 ≡ 1
    one s h =
        let long : length (replicate n a) ≡ n = length-replicate n a in
        reach-first (aba a b) (replicate n a) s (omega arith) (omega arith) (sym (letter s (omega arith)))
        ∙ reach-unequal (aba a b) (replicate n a) s 1 (omega arith) (omega arith) (λ e. differ (sym (e ∙ letter (s + 1) (omega arith))))

    each : (s : ℕ) → s + 3 ≤ n → window (aba a b) (replicate n a) s 0 ≡ record { compared = 3; stands = false; next = at (s + 1) 0 }
    each s h =
        let long : length (replicate n a) ≡ n = length-replicate n a in
        window-fresh (aba a b) (replicate n a) s (omega arith) (omega arith) (sym (letter (s + 2) (omega arith)))
        ∙ rw (one s h, kmp-next (aba a b) s 1 1 (s + 1) 0 (sym second) (omega arith) (omega arith))

    pub aba-costs : 3 ≤ n → compared fjs (aba a b) (replicate n a) ≡ 3 * n - 6
    unfolding compared
    aba-costs h =
        let long : length (replicate n a) ≡ n = length-replicate n a in
        run-alike window (aba a b) (replicate n a) 3 0 (λ s i. let v = each s (omega arith) in (ap (λ (x : Window). x.compared) v, ap (λ (x : Window). x.next) v)) (n - 2) 0 (omega arith) ∙ omega arith

    pub aba-found : 3 ≤ n → {scratch list : List ℕ} {r : Finding} {scratch' list' : List ℕ} → Found fjs (aba a b) (replicate n a) scratch list r scratch' list' → r.refusal ≡ 0
        → r.comparisons ≡ 3 * n - 6
    aba-found h found z = found-compared found z ∙ aba-costs h
