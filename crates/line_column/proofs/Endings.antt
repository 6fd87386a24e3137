-- The endings of a text byte by byte: where an ending is over with a byte (`ends_line`), one ending more is wholly before the next place, and a line starts there (`ends_at`); any other byte
-- adds none (`ends-not`). Assumes nothing.
use mathlib.Core.Path.{◌≡◌, refl, sym, ap, ap₂, ◌∙◌}
use Prim.Native.Nat.{ℕ, zero, suc, ◌+◌, ◌-◌, ◌≤◌, ◌<◌}
use native.Mathlib.Omega.{arith}
use mathlib.Core.Bool.{Bool, true, false, cond, ◌&&◌}
use mathlib.Core.List.{List, [], ◌∷◌, ◌++◌, append-nil}
use lib.ListN.{length, get_or, length-append}
use lib.Dec.{eqb, ltb}
use borrow.Author.Tests.{eqb-true, ltb-true, ltb-false, le-leb, lt-leb}
use Rattle.matching.proofs.CaseAnalysis.{by-test, both}
use Rattle.line_column.specs.LineColumn.{is_pair, is_ending, endings, wholly_before, last_of, ends_line, ends_before, line_start}

-- ---- the endings from a place on

-- what stands first in a text of two bytes and more: an ending of two, of one, or none
by-ending : (Q : List ℕ → Type 0) (k a b : ℕ) (rest : List ℕ) → (is_pair a b ≡ true → Q (suc (suc k) ∷ endings (suc (suc k)) rest))
    → (is_pair a b ≡ false → is_ending a ≡ true → Q (suc k ∷ endings (suc k) (b ∷ rest))) → (is_pair a b ≡ false → is_ending a ≡ false → Q (endings (suc k) (b ∷ rest))) → Q (endings k (a ∷ b ∷ rest))
unfolding endings
by-ending Q k a b rest two one none =
    let alone : Bool → List ℕ = λ t. cond t (suc k ∷ endings (suc k) (b ∷ rest)) (endings (suc k) (b ∷ rest)) in
    by-test (λ t. Q (cond t (suc (suc k) ∷ endings (suc (suc k)) rest) (alone (is_ending a)))) (is_pair a b)
    two
    (λ p. by-test (λ t. Q (alone t)) (is_ending a) (one p) (none p))

module _ (place e : ℕ) (es : List ℕ) where
  taken : e ≤ place → wholly_before place (e ∷ es) ≡ e ∷ wholly_before place es
  unfolding wholly_before
  taken h = rw (le-leb e place h)

  passed : place < e → wholly_before place (e ∷ es) ≡ wholly_before place es
  unfolding wholly_before
  passed h = rw (lt-leb e place h)

-- none is wholly before the place that they start from
none_before : (k place : ℕ) (text : List ℕ) → place ≤ k → wholly_before place (endings k text) ≡ []
unfolding endings wholly_before
none_before k place [] h = refl
none_before k place (a ∷ []) h = by-test (λ t. wholly_before place (cond t (suc k ∷ []) []) ≡ []) (is_ending a) (λ _. passed place (suc k) [] (omega arith)) (λ _. refl)
none_before k place (a ∷ b ∷ rest) h =
    let later : wholly_before place (endings (suc k) (b ∷ rest)) ≡ [] = none_before (suc k) place (b ∷ rest) (omega arith) in
    by-ending (λ l. wholly_before place l ≡ []) k a b rest
    (λ _. passed place (suc (suc k)) (endings (suc (suc k)) rest) (omega arith) ∙ none_before (suc (suc k)) place rest (omega arith))
    (λ _ _. passed place (suc k) (endings (suc k) (b ∷ rest)) (omega arith) ∙ later)
    (λ _ _. later)

-- nor before its end, of those that start with one
none_after : (e place : ℕ) (text : List ℕ) → place < e → wholly_before place (e ∷ endings e text) ≡ []
none_after e place text h = passed place e (endings e text) h ∙ none_before e place text (omega arith)

-- ---- from a place to the next

-- wholly before the next place are those before this one, and one that is over with the byte between, if t
abbrev Steps : ℕ → List ℕ → Bool → Type 0
Steps place es t = wholly_before (suc place) es ≡ wholly_before place es ++ cond t (suc place ∷ []) []

module _ (place : ℕ) where
  -- an ending further before makes no difference
  step_after : (e : ℕ) (es : List ℕ) (t : Bool) → e ≤ place → Steps place es t → Steps place (e ∷ es) t
  step_after e es t h s =
      taken (suc place) e es (omega arith) ∙ ap (λ (l : List ℕ). e ∷ l) s ∙ sym (ap (λ (l : List ℕ). l ++ cond t (suc place ∷ []) []) (taken place e es h))

  -- one that is over there is the new one
  step-at : (e : ℕ) (es : List ℕ) → e ≡ suc place → wholly_before (suc place) es ≡ [] → wholly_before place es ≡ [] → Steps place (e ∷ es) true
  step-at e es h none none₀ =
      taken (suc place) e es (omega arith) ∙ ap₂ (λ (x : ℕ) (l : List ℕ). x ∷ l) h none ∙ sym (ap (λ (l : List ℕ). l ++ suc place ∷ []) (passed place e es (omega arith) ∙ none₀))

  -- none is there yet
  step-none : (es : List ℕ) → wholly_before (suc place) es ≡ [] → wholly_before place es ≡ [] → Steps place es false
  step-none es none none₀ = none ∙ sym (ap (λ (l : List ℕ). l ++ []) none₀)

-- where an ending is over: not with the first byte of a pair but with the second, and with any other byte that is one; the last byte of a text makes no pair
module _ (a b : ℕ) where
  ends-one : is_pair a b ≡ false → ends_line a b ≡ is_ending a
  unfolding ends_line
  ends-one p = rw p (by-test (λ t. (t && true) ≡ t) (is_ending a) (λ _. refl) (λ _. refl))

  ends-first : is_pair a b ≡ true → ends_line a b ≡ false
  unfolding ends_line
  ends-first p = rw p (by-test (λ t. (t && false) ≡ false) (is_ending a) (λ _. refl) (λ _. refl))

  ends-second : (next : ℕ) → is_pair a b ≡ true → ends_line b next ≡ true
  unfolding ends_line is_pair is_ending
  ends-second next p = let ten : b ≡ 10 = eqb-true b 10 (both (eqb a 13) (eqb b 10) p).1 in rw ten refl

pair-none : (a : ℕ) → is_pair a 0 ≡ false
unfolding is_pair
pair-none a = by-test (λ t. (t && false) ≡ false) (eqb a 13) (λ _. refl) (λ _. refl)

-- the endings of a text, step by step
steps : (k : ℕ) (text : List ℕ) (i place : ℕ) → place ≡ k + i → Steps place (endings k text) (ends_line (get_or text i 0) (get_or text (suc i) 0))
unfolding endings wholly_before ends_line is_pair is_ending
steps k [] i place h = refl
steps k (a ∷ []) zero place h =
    rw (ends-one a 0 (pair-none a)) (by-test (λ t. Steps place (cond t (suc k ∷ []) []) t) (is_ending a) (λ _. step-at place (suc k) [] (omega arith) refl refl) (λ _. refl))
steps k (a ∷ []) (suc i) place h = by-test (λ t. Steps place (cond t (suc k ∷ []) []) false) (is_ending a) (λ _. step_after place (suc k) [] false (omega arith) refl) (λ _. refl)
steps k (a ∷ b ∷ rest) zero place h =
    let next : List ℕ = endings (suc k) (b ∷ rest) in
    let none = none_before (suc k) (suc place) (b ∷ rest) (omega arith) in
    let none₀ = none_before (suc k) place (b ∷ rest) (omega arith) in
    by-ending (λ l. Steps place l (ends_line a b)) k a b rest
    (λ p. rw (ends-first a b p) (step-none place (suc (suc k) ∷ endings (suc (suc k)) rest) (none_after (suc (suc k)) (suc place) rest (omega arith)) (none_after (suc (suc k)) place rest (omega arith))))
    (λ p e. rw (ends-one a b p, e) (step-at place (suc k) next (omega arith) none none₀))
    (λ p e. rw (ends-one a b p, e) (step-none place next none none₀))
steps k (a ∷ b ∷ rest) (suc i) place h =
    let t : Bool = ends_line (get_or (b ∷ rest) i 0) (get_or (b ∷ rest) (suc i) 0) in
    let next : Steps place (endings (suc k) (b ∷ rest)) t = steps (suc k) (b ∷ rest) i place (omega arith) in
    by-ending (λ l. Steps place l t) k a b rest
    (λ p. pair p (λ j. steps (suc (suc k)) rest j place) i h)
    (λ _ _. step_after place (suc k) (endings (suc k) (b ∷ rest)) t (omega arith) next)
    (λ _ _. next)
  where
    pair : is_pair a b ≡ true → ((j : ℕ) → place ≡ suc (suc k) + j → Steps place (endings (suc (suc k)) rest) (ends_line (get_or rest j 0) (get_or rest (suc j) 0))) → (i : ℕ) → place ≡ k + suc i → Steps place (suc (suc k) ∷ endings (suc (suc k)) rest) (ends_line (get_or (b ∷ rest) i 0) (get_or (b ∷ rest) (suc i) 0))
    pair p later zero h =
        rw (ends-second a b (get_or rest 0 0) p)
        (step-at place (suc (suc k)) (endings (suc (suc k)) rest) (omega arith) (none_before (suc (suc k)) (suc place) rest (omega arith)) (none_before (suc (suc k)) place rest (omega arith)))
    pair p later (suc i) h = step_after place (suc (suc k)) (endings (suc (suc k)) rest) (ends_line (get_or rest i 0) (get_or rest (suc i) 0)) (omega arith) (later i (omega arith))

-- ---- how many, and where the line starts, from a place to the next

last_more : (start : ℕ) (l : List ℕ) (x : ℕ) → last_of start (l ++ x ∷ []) ≡ x
unfolding last_of
last_more start [] x = refl
last_more start (e ∷ l) x = last_more e l x

module _ (text : List ℕ) (i : ℕ) where
  abbrev ends : Bool
  ends = ends_line (get_or text i 0) (get_or text (suc i) 0)

  pub ends_at : ends ≡ true → (ends_before text (suc i) ≡ suc (ends_before text i)) × (line_start text (suc i) ≡ suc i)
  unfolding ends_before line_start
  ends_at e =
      let l : List ℕ = wholly_before i (endings 0 text) in
      let one : wholly_before (suc i) (endings 0 text) ≡ l ++ suc i ∷ [] = steps 0 text i i (omega arith) ∙ ap (λ (t : Bool). l ++ cond t (suc i ∷ []) []) e in
      (ap length one ∙ omega (arith, length-append l (suc i ∷ [])), ap (last_of 0) one ∙ last_more 0 l (suc i))

  pub ends-not : ends ≡ false → (ends_before text (suc i) ≡ ends_before text i) × (line_start text (suc i) ≡ line_start text i)
  unfolding ends_before line_start
  ends-not e =
      let l : List ℕ = wholly_before i (endings 0 text) in
      let same : wholly_before (suc i) (endings 0 text) ≡ l = steps 0 text i i (omega arith) ∙ ap (λ (t : Bool). l ++ cond t (suc i ∷ []) []) e ∙ append-nil l in
      (ap length same, ap (last_of 0) same)

  -- a byte more, and one line more or none
  pub ends_more : (ends_before text i ≤ ends_before text (suc i)) × (ends_before text (suc i) ≤ suc (ends_before text i))
  ends_more =
      by-test (λ _. (ends_before text i ≤ ends_before text (suc i)) × (ends_before text (suc i) ≤ suc (ends_before text i))) ends
      (λ e. (omega (arith, (ends_at e).0), omega (arith, (ends_at e).0)))
      (λ e. (omega (arith, (ends-not e).0), omega (arith, (ends-not e).0)))

-- the same told of a place by the byte before it, as code that goes byte by byte needs it
module _ (text : List ℕ) where
  pub ended_at : (place : ℕ) → 0 < place → ends_line (get_or text (place - 1) 0) (get_or text place 0) ≡ true → ends_before text place ≡ ends_before text (place - 1) + 1
  ended_at zero h e = absurd (omega arith)
  ended_at (suc i) h e = let s : suc i - 1 ≡ i = omega arith in rw s (let z = rw s at e in omega (arith, (ends_at text i z).0))

  pub ended_not : (place : ℕ) → 0 < place → ends_line (get_or text (place - 1) 0) (get_or text place 0) ≡ false → ends_before text place ≡ ends_before text (place - 1)
  ended_not zero h e = absurd (omega arith)
  ended_not (suc i) h e = let s : suc i - 1 ≡ i = omega arith in rw s (let z = rw s at e in (ends-not text i z).0)

  pub started_at : (place : ℕ) → 0 < place → ends_line (get_or text (place - 1) 0) (get_or text place 0) ≡ true → line_start text place ≡ place
  started_at zero h e = absurd (omega arith)
  started_at (suc i) h e = let s : suc i - 1 ≡ i = omega arith in let z = rw s at e in (ends_at text i z).1

  pub started_not : (place : ℕ) → 0 < place → ends_line (get_or text (place - 1) 0) (get_or text place 0) ≡ false → line_start text place ≡ line_start text (place - 1)
  started_not zero h e = absurd (omega arith)
  started_not (suc i) h e = let s : suc i - 1 ≡ i = omega arith in rw s (let z = rw s at e in (ends-not text i z).1)

-- no line ends before the text's start
pub ends-start : (text : List ℕ) → (ends_before text 0 ≡ 0) × (line_start text 0 ≡ 0)
unfolding ends_before line_start last_of
ends-start text = let none = none_before 0 0 text (omega arith) in (ap length none, ap (last_of 0) none)

pub started_none : (text : List ℕ) (i : ℕ) → i ≤ 0 → line_start text i ≡ i
started_none text i h = let z : i ≡ 0 = omega arith in ap (line_start text) z ∙ (ends-start text).1 ∙ sym z

-- no more lines end before a place than bytes stand there
pub ends-few : (text : List ℕ) (k : ℕ) → ends_before text k ≤ k
ends-few text zero = omega (arith, (ends-start text).0)
ends-few text (suc k) = omega (arith, ends-few text k, (ends_more text k).1)

-- nor does a line start past a place of it
pub start-few : (text : List ℕ) (k : ℕ) → line_start text k ≤ k
start-few text zero = omega (arith, (ends-start text).1)
start-few text (suc k) =
    by-test (λ _. line_start text (suc k) ≤ suc k) (ends_line (get_or text k 0) (get_or text (suc k) 0)) (λ e. omega (arith, (ends_at text k e).1)) (λ e. omega (arith, (ends-not text k e).1, start-few text k))

-- no fewer lines end before a later place
pub ends-rise : (text : List ℕ) {from : ℕ} (k : ℕ) → from ≤ k → ends_before text from ≤ ends_before text k
ends-rise text {from} zero h = let z : from ≡ 0 = omega arith in omega (arith, ap (ends_before text) z)
ends-rise text {from} (suc k) h =
    by-test (λ _. ends_before text from ≤ ends_before text (suc k)) (ltb k from)
    (λ t. let e : from ≡ suc k = omega (arith, ltb-true k from t) in omega (arith, ap (ends_before text) e))
    (λ t. omega (arith, ends-rise text k (ltb-false k from t), (ends_more text k).0))

-- where no line ends between two places, one line has both
pub start-kept : (text : List ℕ) {from : ℕ} (k : ℕ) → from ≤ k → ends_before text k ≤ ends_before text from → line_start text k ≡ line_start text from
start-kept text {from} zero h same = let z : 0 ≡ from = omega arith in ap (line_start text) z
start-kept text {from} (suc k) h same =
    by-test (λ _. line_start text (suc k) ≡ line_start text from) (ltb k from)
    (λ t. let e : suc k ≡ from = omega (arith, ltb-true k from t) in ap (line_start text) e)
    (λ t.
    let low : from ≤ k = ltb-false k from t in
    let rise = ends-rise text k low in
    by-test (λ t. (ends_line (get_or text k 0) (get_or text (suc k) 0) ≡ t) → line_start text (suc k) ≡ line_start text from) (ends_line (get_or text k 0) (get_or text (suc k) 0))
    (λ _ e. absurd (omega (arith, same, rise, (ends_at text k e).0)))
    (λ _ e. (ends-not text k e).1 ∙ start-kept text k low (omega (arith, same, (ends-not text k e).0)))
    refl)
