-- Boyer-Moore's moves go on and pass over no occurrence, from the rules of DELTA1, DELTA2 and the border alone. And the moves as code makes them: DELTA2(1) holds the move after an occurrence,
-- and where the last letter is unequal DELTA1 is the larger value. Assumes nothing.
use mathlib.Core.Path.{◌≡◌, refl, sym, ap, ap₂, ◌∙◌}
use Prim.Native.Nat.{ℕ, suc, ◌+◌, ◌-◌, ◌*◌, ◌≤◌, ◌<◌, max}
use native.Mathlib.Omega.{arith}
use mathlib.Core.List.{List}
use lib.ListN.{length, get_or}
use lib.Dec.{ltb}
use borrow.Author.Tests.{ltb-true, ltb-false, lt-ltb, le-ltb}
use Rattle.matching.specs.Letters.{equal_down}
use Rattle.matching.specs.Machine.{at}
use Rattle.matching.proofs.CaseAnalysis.{by-test, at_same}
use Rattle.matching.proofs.Letters.{down-meets, down-differs}
use Rattle.matching.proofs.Machine.{carries-none, Moves}
use Rattle.letter_tables.specs.BadCharacter.{delta1_entry}
use Rattle.letter_tables.proofs.BadCharacter.{delta1_entry-le, delta1_entry-pos, delta1_entry-letter}
use Rattle.letter_tables.proofs.Moves.{delta1-safe}
use Rattle.border_tables.specs.Kmp.{longest_border}
use Rattle.border_tables.specs.Moves.{border_move}
use Rattle.border_tables.proofs.Borders.{Border}
use Rattle.border_tables.proofs.Kmp.{longest_border-rule}
use Rattle.border_tables.proofs.Moves.{border-moves}
use Rattle.suffix_tables.specs.Delta2.{letter, shift, delta2_entry}
use Rattle.suffix_tables.proofs.Delta2.{shift_rule, shift_le}
use Rattle.suffix_tables.proofs.Again.{entry_whole}
use Rattle.suffix_tables.proofs.Moves.{delta2-safe}
use Rattle.boyer_moore.specs.BoyerMoore.{larger, mismatch_move, boyer_moore_move}

-- ---- the larger value: DELTA2 moves the text pointer past the window's end, and neither value is above 2m - 1

pub record Larger (P T : List ℕ) (s j : ℕ) : Type 0 where
  pub past : length P < j + larger P T s j
  pub most : larger P T s j + j ≤ 2 * length P

pub larger-value : (P T : List ℕ) (s j : ℕ) → 1 ≤ j → j ≤ length P → Larger P T s j
unfolding larger
larger-value P T s j low high =
    let some : 1 ≤ shift P j = (shift_rule P j (omega arith) high).some in
    let most : shift P j ≤ length P = shift_le P j (omega arith) high in
    record { past = omega arith; most = omega (arith, delta1_entry-le P (letter T (s + j))) }

-- ---- a mismatch: letter j of the window at s is unequal, and all after it are equal

pub mismatch-moves : (P T : List ℕ) (s j : ℕ) → 1 ≤ j → j ≤ length P → ((i : ℕ) → j < i → i ≤ length P → letter P i ≡ letter T (s + i)) → (letter P j ≡ letter T (s + j) → ⊥)
    → Moves P T s (mismatch_move P T s j)
unfolding mismatch_move larger
mismatch-moves P T s j low high equal differs =
    let some : 1 ≤ shift P j = (shift_rule P j (omega arith) high).some in
    record {
      ahead = omega arith;
      skips = λ k h l st.
          by-test (λ _. ⊥) (ltb k (s + shift P j))
          (λ e. delta2-safe P T s j low high equal differs k h (ltb-true k (s + shift P j) e) st)
          (λ e. delta1-safe P T s (s + j - 1) (omega arith) (omega arith) k h (omega (arith, ltb-false k (s + shift P j) e)) st);
      hands = carries-none P T _ (omega arith);
    }

-- ---- as an engine compares: the last e letters are equal

pub boyer-moore-moves : (P T : List ℕ) (s : ℕ) → 1 ≤ length P → s + length P ≤ length T → Moves P T s (boyer_moore_move P T s (equal_down P T s (length P)))
unfolding boyer_moore_move
boyer-moore-moves P T s h inside =
    let m : ℕ = length P in
    let e : ℕ = equal_down P T s m in
    by-test (λ _. Moves P T s (boyer_moore_move P T s e)) (ltb e m)
    (λ t.
    let short : e < m = ltb-true e m t in
    rw (lt-ltb e m short)
    (mismatch-moves P T s (m - e) (omega arith) (omega arith)
    (λ i a b. down-meets P T s m (i - 1) (omega arith) (omega arith) ∙ at_same T (omega arith))
    (λ x. down-differs P T s m short (at_same P (omega arith) ∙ x ∙ at_same T (omega arith)))))
    (λ t.
    let all : m ≤ e = ltb-false e m t in
    rw (le-ltb e m all) (border-moves P T s h (record { inside = inside; letters = λ i l. down-meets P T s m i (omega arith) l })))

-- ---- the moves as code makes them

-- where the last k letters of the window at s are equal, the engine moves it by d, which is 1 to m
pub record Goes (P T : List ℕ) (s k d : ℕ) : Type 0 where
  pub next : boyer_moore_move P T s k ≡ at (s + d) 0
  pub some : 1 ≤ d
  pub most : d ≤ length P

-- the larger value, as code reads the two entries
pub larger-is : (P T : List ℕ) (s k q : ℕ) {a b d : ℕ} → q + suc k ≡ length P → a ≡ delta1_entry P (get_or T (s + q) 0) → b ≡ delta2_entry P (suc q) → d ≡ max a b → d ≡ larger P T s (length P - k)
unfolding larger
larger-is P T s k q e f g h =
    let j : length P - k ≡ suc q = omega arith in
    let c : letter T (s + suc q) ≡ get_or T (s + q) 0 = at_same T (omega arith) in
    rw (j, c) (h ∙ ap₂ max f g)

-- the letter before the last k is unequal: by the larger value less these k letters, over which the text pointer has gone back
pub mismatch-goes : (P T : List ℕ) (s k : ℕ) {d : ℕ} → k < length P → d ≡ larger P T s (length P - k) → Goes P T s k (d - k)
unfolding boyer_moore_move mismatch_move
mismatch-goes P T s k {d} h e =
    let v = larger-value P T s (length P - k) (omega arith) (omega arith) in
    record { next = rw (lt-ltb k (length P) h) (ap (λ (x : ℕ). at x 0) (omega (arith, v.past))); some = omega (arith, v.past); most = omega (arith, v.most) }

-- at the last letter DELTA1 is the larger value: DELTA2(m) is the distance to the nearest letter before it that is another one (source document 003, whose fast loop looks at DELTA1 alone)
last-larger : (P : List ℕ) (c : ℕ) → 1 ≤ length P → (get_or P (length P - 1) 0 ≡ c → ⊥) → shift P (length P) ≤ delta1_entry P c
last-larger P c h other =
    let m : ℕ = length P in
    let d : ℕ = delta1_entry P c in
    by-test (λ _. shift P m ≤ d) (ltb d (shift P m))
    (λ t.
    let l : d < shift P m = ltb-true d (shift P m) t in
    let within : d < m = omega (arith, shift_le P m h (omega arith)) in
    absurd
    ((shift_rule P m h (omega arith)).none d (delta1_entry-pos P c h other) l
    (record {
      again = λ i a b. absurd (omega arith);
      differs = λ _ e. other (sym e ∙ at_same P (omega arith) ∙ delta1_entry-letter P c within);
    })))
    (λ t. ltb-false d (shift P m) t)

-- so where the last letter is unequal, by DELTA1 alone
pub last_goes : (P T : List ℕ) (s : ℕ) {d : ℕ} → 1 ≤ length P → (get_or P (length P - 1) 0 ≡ get_or T (s + (length P - 1)) 0 → ⊥) → d ≡ delta1_entry P (get_or T (s + (length P - 1)) 0) → Goes P T s 0 d
last_goes P T s {d} h other e =
    let m : ℕ = length P in
    let c : ℕ = get_or T (s + (m - 1)) 0 in
    let is : d ≡ larger P T s (m - 0) = larger-is P T s 0 (m - 1) {b = delta2_entry P (suc (m - 1))} (omega arith) e refl (rw last (omega (arith, last-larger P c h other))) in
    let z : d - 0 ≡ d = omega arith in
    rw z at (mismatch-goes P T s 0 h is)
  where
    last : suc (length P - 1) ≡ length P
    last = omega arith

-- DELTA2(1) is m less the longest proper border, and m - 1 more: the move after an occurrence can be read off it
pub delta2-first : (P : List ℕ) → 1 ≤ length P → delta2_entry P 1 ≡ length P - longest_border P + (length P - 1)
unfolding Border
delta2-first P h =
    let m : ℕ = length P in
    let b : ℕ = longest_border P in
    let r = longest_border-rule P h in
    let low : suc b ≤ m = r.low in
    entry_whole P 0 (m - b) h (omega arith)
    (record { letters = λ i l. at_same P (omega arith) ∙ r.border (omega arith) i (omega arith) ∙ at_same P (omega arith) })
    (λ c x y a. r.above (m - c) (omega arith) (omega arith) (λ i l. at_same P (omega arith) ∙ a.letters i (omega arith) ∙ at_same P (omega arith)))
    (λ s t. omega (arith, t.before))
    ∙ omega arith

-- all letters are equal
pub occurrence-goes : (P T : List ℕ) (s k : ℕ) {d : ℕ} → 1 ≤ length P → length P ≤ k → d ≡ delta2_entry P 1 - (length P - 1) → Goes P T s k d
unfolding boyer_moore_move border_move
occurrence-goes P T s k {d} h all e =
    let low = (longest_border-rule P h).low in
    record { next = rw (le-ltb k (length P) all) (ap (λ (x : ℕ). at (s + x) 0) (omega (arith, delta2-first P h))); some = omega (arith, delta2-first P h); most = omega (arith, delta2-first P h) }
