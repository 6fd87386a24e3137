-- Lines and columns: counted on from a place whose own are told (`line_known`), how large they are, and bytes in the place of others (`lines-kept`). Assumes nothing.
use mathlib.Core.Path.{◌≡◌, refl, sym, ap, ap₂, ◌∙◌}
use Prim.Native.Nat.{ℕ, suc, ◌+◌, ◌-◌, ◌≤◌, ◌<◌, min}
use native.Mathlib.Omega.{arith}
use mathlib.Core.Bool.{Bool, cond, ◌&&◌, ◌||◌}
use mathlib.Core.List.{List, [], ◌∷◌, map}
use lib.ListN.{length, length-map}
use lib.Dec.{eqb, ltb}
use borrow.Author.Tests.{ltb-true, ltb-false, lt-ltb, le-ltb}
use Rattle.matching.proofs.CaseAnalysis.{by-test}
use Rattle.line_column.specs.declared.LineColumn.{LineColumn}
use Rattle.line_column.specs.LineColumn.{is_pair, is_ending, endings, ends_before, line_start, line_column, line_column_on, line_column_from}
use Rattle.line_column.proofs.Endings.{ends-start, ends-few, start-few, ends-rise, start-kept}

-- ---- line and column counted on from a place whose own are told

-- line and column of a place that is in the text, or at its end
abbrev there : List ℕ → ℕ → LineColumn
there text k = record { line = ends_before text k + 1; column = k - line_start text k + 1 }

inside : (text : List ℕ) (k : ℕ) → k ≤ length text → line_column text k ≡ there text k
unfolding line_column
inside text k h = let e : min k (length text) ≡ k = omega arith in ap (there text) e

-- what is counted on: with a line end between, and without
module _ (text : List ℕ) (start line column end count : ℕ) (counted : ends_before text end ≡ ends_before text start + count) where
  between : ends_before text end - ends_before text start ≡ count
  between = omega (arith, counted)

  pub on_some : 0 < count → line_column_on text start line column end ≡ record { line = line + count; column = end - line_start text end + 1 }
  unfolding line_column_on
  on_some h = rw (between, lt-ltb 0 count h) refl

  pub on_none : count ≤ 0 → line_column_on text start line column end ≡ record { line = line + count; column = column + (end - start) }
  unfolding line_column_on
  on_none h = rw (between, le-ltb 0 count h) refl

-- the same with the count as the difference that it is, for `grind`
pub counted_some : (text : List ℕ) (start line column end : ℕ) → ends_before text start < ends_before text end
    → line_column_on text start line column end ≡ record { line = line + (ends_before text end - ends_before text start); column = end - line_start text end + 1 }
counted_some text start line column end h = on_some text start line column end (ends_before text end - ends_before text start) (omega arith) (omega arith)

pub counted_none : (text : List ℕ) (start line column end : ℕ) → ends_before text end ≡ ends_before text start
    → line_column_on text start line column end ≡ record { line = line; column = column + (end - start) }
counted_none text start line column end h =
    on_none text start line column end 0 (omega (arith, h)) (omega arith) ∙ ap (λ (n : ℕ). record { line = n; column = column + (end - start) }) (omega arith)

-- what is told of a place being right, so is what is counted on from there
on-right : (text : List ℕ) {start : ℕ} {told : LineColumn} (end : ℕ) → start ≤ end → end ≤ length text → told ≡ line_column text start
    → line_column_on text start told.line told.column end ≡ there text end
on-right text {start} {told} end h within right =
    let count = ends_before text end - ends_before text start in
    let rise = ends-rise text end h in
    let counted : ends_before text end ≡ ends_before text start + count = omega (arith, rise) in
    let own : told ≡ there text start = right ∙ inside text start (omega arith) in
    let lines : told.line + count ≡ ends_before text end + 1 = omega (arith, ap (λ (x : LineColumn). x.line) own, rise) in
    by-test (λ _. line_column_on text start told.line told.column end ≡ there text end) (ltb 0 count)
    (λ t. on_some text start told.line told.column end count counted (ltb-true 0 count t) ∙ ap (λ (n : ℕ). record { line = n; column = end - line_start text end + 1 }) lines)
    (λ t.
    let none : count ≤ 0 = ltb-false 0 count t in
    let kept = start-kept text end h (omega (arith, none, rise)) in
    let columns : told.column + (end - start) ≡ end - line_start text end + 1 = omega (arith, ap (λ (x : LineColumn). x.column) own, kept, start-few text start) in
    on_none text start told.line told.column end count counted none ∙ ap₂ (λ (n k : ℕ). record { line = n; column = k }) lines columns)

-- the text's first place is in line 1, column 1
pub line_first : (text : List ℕ) → record { line = 1; column = 1 } ≡ line_column text 0
line_first text = let one : 1 ≡ ends_before text 0 + 1 = omega (arith, (ends-start text).0) in ap₂ (λ (l c : ℕ). record { line = l; column = c }) one (omega arith) ∙ sym (inside text 0 (omega arith))

module _ (text : List ℕ) (known place : ℕ) where
  abbrev end : ℕ
  end = min place (length text)

  ended : there text end ≡ line_column text place
  unfolding line_column
  ended = refl

  -- one that is past this place plays no part
  known-none : (line column : ℕ) → end < known → line_column_from text known line column place ≡ line_column text place
  unfolding line_column_from
  known-none line column h = rw (lt-ltb end known h)

  pub known_past : (line column : ℕ) → end < known → line_column_on text 0 1 1 end ≡ line_column_from text known line column place
  known_past line column h = on-right text end (omega arith) (omega arith) (line_first text) ∙ ended ∙ sym (known-none line column h)

  pub known-before : (line column : ℕ) → known ≤ end → line_column_on text known line column end ≡ line_column_from text known line column place
  unfolding line_column_from
  known-before line column h = rw (le-ltb end known h)

  -- both, for the code
  pub ruleset from_known = (known_past, known-before)

  -- the known place's own line and column give those of this place
  pub line_known : {told : LineColumn} → told ≡ line_column text known → line_column_from text known told.line told.column place ≡ line_column text place
  line_known {told} right =
      by-test (λ _. line_column_from text known told.line told.column place ≡ line_column text place) (ltb end known)
      (λ t. known-none told.line told.column (ltb-true end known t))
      (λ t. let h = ltb-false end known t in sym (known-before told.line told.column h) ∙ on-right text end h (omega arith) right ∙ ended)

-- a line and a column are at most 1 more than the text has bytes
pub line_small : (text : List ℕ) (place : ℕ) → (line_column text place).line ≤ length text + 1
unfolding line_column
line_small text place = omega (arith, ends-few text (min place (length text)))

pub column-small : (text : List ℕ) (place : ℕ) → (line_column text place).column ≤ length text + 1
unfolding line_column
column-small text place = omega arith

-- ---- bytes in the place of others

-- a text in which each byte gives way to another, 10 and 13 to themselves and no other to them, keeps its lines and columns
module _ (f : ℕ → ℕ) (ten : (b : ℕ) → eqb (f b) 10 ≡ eqb b 10) (thirteen : (b : ℕ) → eqb (f b) 13 ≡ eqb b 13) where
  ending-kept : (a : ℕ) → is_ending (f a) ≡ is_ending a
  unfolding is_ending
  ending-kept a = ap₂ (λ (s t : Bool). s || t) (ten a) (thirteen a)

  pair-kept : (a b : ℕ) → is_pair (f a) (f b) ≡ is_pair a b
  unfolding is_pair
  pair-kept a b = ap₂ (λ (s t : Bool). s && t) (thirteen a) (ten b)

  endings-kept : (k : ℕ) (text : List ℕ) → endings k (map f text) ≡ endings k text
  unfolding endings
  endings-kept k [] = refl
  endings-kept k (a ∷ []) = ap (λ (t : Bool). cond t (suc k ∷ []) []) (ending-kept a)
  endings-kept k (a ∷ b ∷ rest) = rw (pair-kept a b, ending-kept a, endings-kept (suc (suc k)) rest, endings-kept (suc k) (b ∷ rest)) refl

  pub lines-kept : (text : List ℕ) (place : ℕ) → line_column (map f text) place ≡ line_column text place
  unfolding line_column ends_before line_start
  lines-kept text place = rw (length-map text f, endings-kept 0 text) refl
