-- Laws of the gaps of a pattern, from their rule alone: a gap by the last position of its letter (`gap_is`), the widest of them and its position, one letter more, and what engines
-- cite: Fact 3 of source document 001 (`gap-safe`). Assumes nothing.
use mathlib.Core.Path.{◌≡◌, refl, sym, ap, ◌∙◌}
use Prim.Native.Nat.{ℕ, zero, suc, ◌+◌, ◌-◌, ◌≤◌, ◌<◌}
use native.Mathlib.Omega.{arith}
use native.Mathlib.Numerals.{add-one}
use mathlib.Core.List.{List}
use lib.ListN.{length, get_or}
use lib.Dec.{eqb, ltb}
use borrow.Author.Tests.{eqb-true, eq-eqb, ne_eqb, ltb-true, ltb-false, lt-ltb, le-ltb}
use Rattle.matching.proofs.CaseAnalysis.{by-test, at_same}
use Rattle.matching.proofs.Occurrences.{Stands}
use Rattle.tables.specs.Tables.{largest}
use Rattle.letter_tables.specs.declared.Gap.{Gap}
use Rattle.letter_tables.specs.BadCharacter.{last_in}
use Rattle.letter_tables.specs.Gaps.{gap, widest, md, widest_at, mdp, widest_gap, gap_found}
use Rattle.tables.proofs.Tables.{largest-le, largest-holds, least-low, least-most, least-none, least-is}
use Rattle.letter_tables.proofs.BadCharacter.{last_in-le, last_in-none, last_in-letter}

-- ---- one gap

pub gap-pos : (P : List ℕ) (i : ℕ) → 1 ≤ gap P i
unfolding gap
gap-pos P i = least-low i 1 (λ j. eqb (get_or P (i - j) 0) (get_or P i 0))

pub gap-le : (P : List ℕ) (i : ℕ) → gap P i ≤ suc i
unfolding gap
gap-le P i = omega (arith, least-most i 1 (λ j. eqb (get_or P (i - j) 0) (get_or P i 0)))

-- no letter within it is the same
pub gap-none : (P : List ℕ) (i j : ℕ) → 1 ≤ j → j < gap P i → get_or P (i - j) 0 ≡ get_or P i 0 → ⊥
unfolding gap
gap-none P i j h l e = least-none i 1 (λ j. eqb (get_or P (i - j) 0) (get_or P i 0)) j h l (eq-eqb (get_or P (i - j) 0) (get_or P i 0) e)

-- it is what lies between letter i + 1 and the last position of the same letter before it
pub gap_is : (P : List ℕ) (i : ℕ) → gap P i ≡ suc i - last_in P i (get_or P i 0)
unfolding gap
gap_is P i =
    let c : ℕ = get_or P i 0 in
    let last : ℕ = last_in P i c in
    let le : last ≤ i = last_in-le P i c in
    least-is i 1 (λ j. eqb (get_or P (i - j) 0) c) (suc i - last) (omega arith) (omega arith)
    (λ l. eq-eqb (get_or P (i - (suc i - last)) 0) c (at_same P (omega arith) ∙ last_in-letter P i c (omega arith)))
    (λ j h l e. last_in-none P i c (i - j) (omega arith) (omega arith) (eqb-true (get_or P (i - j) 0) c e))

-- ---- the widest, one letter more

module _ (P : List ℕ) (n : ℕ) where
  -- letter n + 1 has a gap at least as wide as any before it
  module _ (wide : widest P n ≤ gap P n) where
    pub widest-new : widest P (suc n) ≡ gap P n
    unfolding widest
    widest-new = omega arith

    pub widest_at-new : widest_at P (suc n) ≡ suc n
    unfolding widest_at largest
    widest_at-new = rw (eq-eqb (gap P n) (widest P (suc n)) (sym widest-new))

  -- or it has not
  module _ (narrow : gap P n < widest P n) where
    pub widest-old : widest P (suc n) ≡ widest P n
    unfolding widest
    widest-old = omega arith

    pub widest_at-old : widest_at P (suc n) ≡ widest_at P n
    unfolding widest_at largest
    widest_at-old = rw (widest-old, ne_eqb (gap P n) (widest P n) (λ e. omega arith))

-- as a loop finds it, with the position `before` of the same letter before letter q + 1
pub widest-next : (P : List ℕ) (q before : ℕ) {w w' : Gap} → w ≡ record { width = widest P q; letter = widest_at P q } → q + 1 ≡ before + gap P q
    → (w.width ≤ q + 1 - before → w' ≡ record { width = q + 1 - before; letter = q + 1 }) → (q + 1 - before < w.width → w' ≡ w)
    → w' ≡ record { width = widest P (q + 1); letter = widest_at P (q + 1) }
widest-next P q before {w} {w'} is last new old =
    let this : q + 1 - before ≡ gap P q = omega arith in
    let width : w.width ≡ widest P q = ap (λ (g : Gap). g.width) is in
    by-test (λ _. w' ≡ record { width = widest P (q + 1); letter = widest_at P (q + 1) }) (ltb (gap P q) (widest P q))
    (λ t.
    let narrow = ltb-true (gap P q) (widest P q) t in
    rw (add-one q, widest-old P q narrow, widest_at-old P q narrow) (old (omega arith) ∙ is))
    (λ t.
    let wide = ltb-false (gap P q) (widest P q) t in
    rw (add-one q, widest-new P q wide, widest_at-new P q wide) (new (omega arith) ∙ rw (this, add-one q)))

-- ---- the widest of some letters

pub widest-none : (P : List ℕ) → widest P 0 ≡ 0
unfolding widest
widest-none P = refl

pub widest_at-none : (P : List ℕ) → widest_at P 0 ≡ 0
unfolding widest_at largest
widest_at-none P = refl

pub widest-le : (P : List ℕ) (n : ℕ) → widest P n ≤ n
unfolding widest
widest-le P zero = omega arith
widest-le P (suc n) = omega (arith, widest-le P n, gap-le P n)

pub widest_at-le : (P : List ℕ) (n : ℕ) → widest_at P n ≤ n
unfolding widest_at
widest_at-le P n = largest-le n (λ i. eqb (gap P i) (widest P n))

pub widest_at-some : (P : List ℕ) (n : ℕ) → 1 ≤ n → 1 ≤ widest_at P n
widest_at-some P zero h = absurd (omega arith)
widest_at-some P (suc n) h =
    by-test (λ _. 1 ≤ widest_at P (suc n)) (ltb (gap P n) (widest P n))
    (λ t.
    let narrow : gap P n < widest P n = ltb-true (gap P n) (widest P n) t in
    omega (arith, widest_at-old P n narrow, widest_at-some P n (omega (arith, widest-le P n))))
    (λ t. omega (arith, widest_at-new P n (ltb-false (gap P n) (widest P n) t)))

-- the gap at that position is the widest
pub widest_at-gap : (P : List ℕ) (n : ℕ) → 1 ≤ n → gap P (widest_at P n - 1) ≡ widest P n
unfolding widest_at
widest_at-gap P n h = eqb-true _ _ (largest-holds n (λ i. eqb (gap P i) (widest P n)) (widest_at-some P n h))

-- ---- of the whole pattern

-- what the call finds: nothing in a pattern that is too long, the widest gap in any other
pub found_none : (P : List ℕ) → 65535 < length P → gap_found P ≡ record { width = 0; letter = 0 }
unfolding gap_found
found_none P h = rw (lt-ltb 65535 (length P) h)

pub found-widest : (P : List ℕ) → length P ≤ 65535 → gap_found P ≡ widest_gap P
unfolding gap_found
found-widest P h = rw (le-ltb 65535 (length P) h)

module _ (P : List ℕ) (some : 1 ≤ length P) where
  pub md-pos : 1 ≤ md P
  md-pos = omega (arith, gap-pos P (mdp P - 1), widest_at-gap P (length P) some)

  -- Fact 3: where letter mdp of the window at s is equal, no occurrence starts at a distance below md. At one, letter mdp of the window would be an earlier letter of the pattern
  pub gap-safe : (T : List ℕ) (s : ℕ) → get_or P (mdp P - 1) 0 ≡ get_or T (s + (mdp P - 1)) 0 → (k : ℕ) → s < k → k < s + md P → Stands P T k → ⊥
  gap-safe T s equal k h l st =
      let a : ℕ = mdp P - 1 in
      let is : gap P a ≡ md P = widest_at-gap P (length P) some in
      let low : 1 ≤ mdp P = widest_at-some P (length P) some in
      let le = widest_at-le P (length P) in
      let wide = gap-le P a in
      gap-none P a (k - s) (omega arith) (omega arith) (st.letters (a - (k - s)) (omega arith) ∙ at_same T (omega arith) ∙ sym equal)
