-- The laws of a row while the children are laid over it. Assumes nothing.
use mathlib.Core.Path.{◌≡◌, refl, sym, ap, ◌∙◌}
use Prim.Native.Nat.{ℕ, ◌+◌, ◌*◌, ◌≤◌, ◌<◌}
use native.Mathlib.Omega.{arith}
use mathlib.Core.List.{List, [], ◌∷◌, ◌++◌}
use lib.ListN.{length, get_or, set, length-set}
use lib.Seq.{get_or-set_same, get_or-set_other}
use lib.Dec.{eqb, ltb}
use borrow.Author.Tests.{eqb-true, eqb-false, ltb-true, ltb-false}
use Rattle.matching.proofs.CaseAnalysis.{by-test}
use Rattle.tries.specs.Tables.{letter_at, child_at, sibling_at, name, Child}
use Rattle.tries.specs.Rows.{class_at, row_at, Rowable, Overlaid}

-- the children above x are laid
pub record Laying (names : List (List ℕ)) (t t' : List ℕ) (w s x : ℕ) : Type 0 where
  pub long : length t' ≡ length t
  pub outside : (i : ℕ) → (33032 + w * s ≤ i → i < 33032 + (w * s + w) → ⊥) → get_or t' i 0 ≡ get_or t i 0
  pub inside : x < length names
  pub child : 1 ≤ x → Child names t s x
  pub laid : (y : ℕ) → x < y → y < length names → Child names t s y → row_at t' w s (class_at t (letter_at t y)) ≡ y
  pub left : (c : ℕ) → c < 256 → ((y : ℕ) → x < y → y < length names → Child names t s y → letter_at t y ≡ c → ⊥) → row_at t' w s (class_at t c) ≡ row_at t w s (class_at t c)

module _ {names : List (List ℕ)} {t : List ℕ} {w s : ℕ} (r : Rowable names t w s) where
  pub laying-none : Laying names t t w s (child_at t s)
  laying-none =
      let l = r.trie.first s r.inside in
      record { long = refl; outside = λ i _. refl; inside = l.below; child = l.here; laid = λ y a b f. absurd (l.none y a b f); left = λ c _ _. refl }

  module _ {t' : List ℕ} {x : ℕ} (m : Laying names t t' w s x) where
    -- what stands before the rows is read as it was
    pub laying-same : (i : ℕ) → i < 33032 → get_or t' i 0 ≡ get_or t i 0
    laying-same i h = m.outside i (λ a b. omega arith)

    pub laying-done : x ≤ 0 → Overlaid names t t' w s
    laying-done z =
        record {
          long = m.long;
          outside = m.outside;
          laid = λ y a b f. m.laid y (omega arith) b f;
          left = λ c h none. m.left c h (λ y a b f e. none y (omega arith) b f e);
        }

    module _ (h : 1 ≤ x) where
      class : ℕ
      class = class_at t (letter_at t x)

      pub laying-byte : letter_at t x < 256
      laying-byte = r.bytes x h m.inside

      pub laying-class : class_at t (letter_at t x) < w
      laying-class = r.classes.below (letter_at t x) laying-byte

      pub laying-falls : sibling_at t x < x
      laying-falls = (r.trie.sibling s x r.inside h m.inside (m.child h)).below

      -- no other letter has the class of x
      alone : (c : ℕ) → c < 256 → (c ≡ letter_at t x → ⊥) → class_at t c ≡ class_at t (letter_at t x) → ⊥
      alone c b differs e = differs (sym (r.classes.apart (letter_at t x) c laying-byte b (r.classes.named s x (letter_at t x) m.inside (m.child h) laying-byte) (sym e)))

      pub laying-next : Laying names t (set t' (33032 + (w * s + class_at t (letter_at t x))) x) w s (sibling_at t x)
      laying-next =
          let k : ℕ = class_at t (letter_at t x) in
          let k< : k < w = laying-class in
          let l = r.trie.sibling s x r.inside h m.inside (m.child h) in
          let falls : sibling_at t x < x = l.below in
          let i : ℕ = 33032 + (w * s + k) in
          let i< : i < length t' = omega (arith, r.room, m.long) in
          record {
            long = length-set t' i x ∙ m.long;
            outside = λ j o. get_or-set_other t' i j x 0 (λ e. o (omega arith) (omega arith)) ∙ m.outside j o;
            inside = omega (arith, m.inside);
            child = l.here;
            laid = λ y a b f.
                by-test (λ _. row_at (set t' i x) w s (class_at t (letter_at t y)) ≡ y) (ltb x y)
                (λ e.
                let above : x < y = ltb-true x y e in
                let other : letter_at t y ≡ letter_at t x → ⊥ =
                λ d. omega (arith, r.trie.once y x b m.inside (f ∙ ap (λ c. name names s ++ (c ∷ [])) d ∙ sym (m.child h))) in
                let differs = alone (letter_at t y) (r.bytes y (omega arith) b) other in
                get_or-set_other t' i (33032 + (w * s + class_at t (letter_at t y))) x 0 (λ d. differs (omega arith)) ∙ m.laid y above b f)
                (λ e.
                by-test (λ _. row_at (set t' i x) w s (class_at t (letter_at t y)) ≡ y) (eqb y x)
                (λ d. rw (eqb-true y x d) (get_or-set_same t' i x 0 i<))
                (λ d. absurd (l.none y a (omega (arith, ltb-false x y e, eqb-false y x d)) f)));
            left = λ c b none.
                let other : c ≡ letter_at t x → ⊥ = λ d. none x falls m.inside (m.child h) (sym d) in
                let differs = alone c b other in
                get_or-set_other t' i (33032 + (w * s + class_at t c)) x 0 (λ d. differs (omega arith)) ∙ m.left c b (λ y a e f g. none y (omega arith) e f g);
          }

-- ---- the turn as the code makes it: it reads the table that it writes

module _ {names : List (List ℕ)} {t t' : List ℕ} {w s x : ℕ} (r : Rowable names t w s) (m : Laying names t t' w s x) (h : 1 ≤ x) where
  pub turn_inside : 8 * x + 8 ≤ 32776
  turn_inside = omega (arith, r.few, m.inside)

  pub turn-letter : get_or t' (8 * x) 0 ≡ letter_at t x
  turn-letter = let l = turn_inside in laying-same r m (8 * x) (omega arith)

  pub turn-class : get_or t' (32776 + get_or t' (8 * x) 0) 0 ≡ class_at t (letter_at t x)
  turn-class = rw turn-letter (let b = laying-byte r m h in laying-same r m (32776 + letter_at t x) (omega arith))

  pub turn-room : 33032 + (w * s + get_or t' (32776 + get_or t' (8 * x) 0) 0) < length t'
  turn-room = omega (arith, turn-class, laying-class r m h, r.room, m.long)

  turn_on : Laying names t (set t' (33032 + (w * s + get_or t' (32776 + get_or t' (8 * x) 0) 0)) x) w s (sibling_at t x)
  turn_on = rw turn-class (laying-next r m h)

  pub turn-sibling : get_or (set t' (33032 + (w * s + get_or t' (32776 + get_or t' (8 * x) 0) 0)) x) (8 * x + 2) 0 ≡ sibling_at t x
  turn-sibling = let l = turn_inside in laying-same r turn_on (8 * x + 2) (omega arith)

  pub laying-turn : Laying names t (set t' (33032 + (w * s + get_or t' (32776 + get_or t' (8 * x) 0) 0)) x) w s (get_or (set t' (33032 + (w * s + get_or t' (32776 + get_or t' (8 * x) 0) 0)) x) (8 * x + 2) 0)
  laying-turn = rw turn-sibling turn_on
