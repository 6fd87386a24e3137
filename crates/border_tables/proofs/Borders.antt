-- Borders of the prefixes of a pattern P, letter by letter: a border of a border is a border, two borders are nested, one letter more and back. Assumes nothing.
use mathlib.Core.Path.{◌≡◌, refl, sym, ap, ◌∙◌}
use Prim.Native.Nat.{ℕ, suc, ◌+◌, ◌-◌, ◌≤◌, ◌<◌}
use native.Mathlib.Omega.{arith}
use mathlib.Core.Bool.{true, not, ◌||◌}
use mathlib.Core.List.{List}
use lib.ListN.{length, get_or, take, drop, length-drop, length-take}
use lib.Seq.{get_or-take, get_or-drop, ext_get_or}
use lib.Dec.{eqb, ltb}
use borrow.Author.Tests.{not-true, eqb-false, ne_eqb, ltb-true, ltb-false}
use Rattle.matching.specs.Occurrences.{same}
use Rattle.matching.proofs.CaseAnalysis.{by-test, both, either, at_same}
use Rattle.matching.proofs.Occurrences.{same_true, eq-same}
use Rattle.border_tables.specs.Kmp.{border, strong}

-- ---- borders

-- the first k letters of P are a border of its first q, letter by letter
unfoldable pub Border : List ℕ → ℕ → ℕ → Type 0
Border P q k = (i : ℕ) → i < k → get_or P i 0 ≡ get_or P (q - k + i) 0

-- the empty border
pub border-zero : (P : List ℕ) (q : ℕ) → Border P q 0
unfolding Border
border-zero P q i h = absurd (omega arith)

-- a border of a border is a border
pub border-trans : (P : List ℕ) (q j k : ℕ) → k ≤ j → j ≤ q → Border P q j → Border P j k → Border P q k
unfolding Border
border-trans P q j k h l b c i s = c i s ∙ b (j - k + i) (omega arith) ∙ at_same P (omega arith)

-- the shorter of two borders is a border of the longer
pub border-nested : (P : List ℕ) (q j k : ℕ) → k ≤ j → j ≤ q → Border P q j → Border P q k → Border P j k
unfolding Border
border-nested P q j k h l b c i s = c i s ∙ at_same P (omega arith) ∙ sym (b (j - k + i) (omega arith))

-- a border, and the same letter after it
pub border-more : (P : List ℕ) (q k : ℕ) → k ≤ q → Border P q k → get_or P k 0 ≡ get_or P q 0 → Border P (suc q) (suc k)
unfolding Border
border-more P q k h b e i s =
    by-test (λ _. get_or P i 0 ≡ get_or P (suc q - suc k + i) 0) (ltb i k)
    (λ t. b i (ltb-true i k t) ∙ at_same P (omega arith))
    (λ t. let l : k ≤ i = ltb-false i k t in at_same P {j = k} (omega arith) ∙ e ∙ at_same P (omega arith))

-- and back: a border that is not empty is a border of one letter less, and its last letter
pub border-less : (P : List ℕ) (q k : ℕ) → k ≤ q → Border P (suc q) (suc k) → Border P q k
unfolding Border
border-less P q k h b i s = b i (omega arith) ∙ at_same P (omega arith)

pub border-letter : (P : List ℕ) (q k : ℕ) → k ≤ q → Border P (suc q) (suc k) → get_or P k 0 ≡ get_or P q 0
unfolding Border
border-letter P q k h b = b k (omega arith) ∙ at_same P (omega arith)

-- ---- what the rule's tests say

pub border-says : (P : List ℕ) (q k : ℕ) → k ≤ q → q ≤ length P → border P q k ≡ true → Border P q k
unfolding border Border
border-says P q k h l e i j =
    let same : take k P ≡ drop (q - k) (take q P) = same_true _ _ e in
    sym (get_or-take k P i 0 j) ∙ ap (λ (x : List ℕ). get_or x i 0) same ∙ get_or-drop (q - k) (take q P) i 0 ∙ get_or-take q P (q - k + i) 0 (omega arith)

pub says-border : (P : List ℕ) (q k : ℕ) → k ≤ q → q ≤ length P → Border P q k → border P q k ≡ true
unfolding border Border
says-border P q k h l same =
    eq-same
    (ext_get_or 0 (take k P) (drop (q - k) (take q P)) (simp (length-take, length-drop) (omega arith))
    (λ i j.
    let i< : i < k = omega (arith, length-take k P) in
    get_or-take k P i 0 i< ∙ same i i< ∙ sym (get_or-drop (q - k) (take q P) i 0 ∙ get_or-take q P (q - k + i) 0 (omega arith))))

pub strong-border : (P : List ℕ) (q k : ℕ) → k ≤ q → q ≤ length P → strong P q k ≡ true → Border P q k
unfolding strong
strong-border P q k h l e = border-says P q k h l (both (border P q k) _ e).0

pub strong-differs : (P : List ℕ) (q k : ℕ) → q < length P → strong P q k ≡ true → get_or P k 0 ≡ get_or P q 0 → ⊥
unfolding strong
strong-differs P q k l e =
    eqb-false (get_or P k 0) (get_or P q 0) (not-true _ (either (eqb q (length P)) _ (both (border P q k) _ e).1 (ne_eqb q (length P) (λ d. omega arith))))

pub border-strong : (P : List ℕ) (q k : ℕ) → k ≤ q → q ≤ length P → Border P q k → (q < length P → get_or P k 0 ≡ get_or P q 0 → ⊥) → strong P q k ≡ true
unfolding strong
border-strong P q k h l same differ =
    rw (says-border P q k h l same)
    (by-test (λ t. t || not (eqb (get_or P k 0) (get_or P q 0)) ≡ true) (eqb q (length P)) (λ _. refl) (λ e. rw (ne_eqb (get_or P k 0) (get_or P q 0) (differ (omega (arith, eqb-false q (length P) e))))))
