-- The laws of the test whether a group's phrases stand in the book. Assumes nothing.
use mathlib.Core.Path.{◌≡◌, refl, ap, ap₂}
use Prim.Native.Nat.{ℕ, zero, suc, ◌+◌, ◌-◌, ◌≤◌, ◌<◌}
use native.Mathlib.Omega.{arith}
use native.Mathlib.Numerals.{add-one}
use mathlib.Core.List.{List, [], ◌∷◌, ◌++◌, map}
use Rattle.std.proofs.lemmas.List.{length_push}
use lib.ListN.{length, get_or, take, drop, length-take, get_or-eq_default}
use lib.Seq.{take_all, get_or-take, get_or-drop}
use lib.Dec.{eqb, ltb}
use borrow.Author.Tests.{eqb-true, eqb-false, ltb-true, ltb-false}
use Rattle.matching.proofs.CaseAnalysis.{by-test}
use Rattle.phrases.specs.Phrases.{phrases_in, letters}
use Rattle.phrases.proofs.Group.{phrases-count, phrase-long}
use Rattle.automaton.specs.Walk.{Good}

letters-more : (ps : List (List ℕ)) (i : ℕ) → i < length ps → letters (take (suc i) ps) ≡ letters (take i ps) + length (get_or ps i [])
unfolding letters
letters-more [] i h = absurd (omega arith)
letters-more (p ∷ ps) zero h = omega arith
letters-more (p ∷ ps) (suc i) h = omega (arith, letters-more ps i (omega arith))

letters-part : (ps : List (List ℕ)) (i : ℕ) → letters (take i ps) ≤ letters ps
unfolding letters
letters-part ps zero = omega arith
letters-part [] (suc i) = omega arith
letters-part (p ∷ ps) (suc i) = omega (arith, letters-part ps i)

-- the first i phrases stand in the book, each with a letter at least, and leave room for so many letters
pub record Fitting (f : ℕ → ℕ) (book starts lens : List ℕ) (room i : ℕ) : Type 0 where
  pub most : i ≤ length starts
  pub inside : (k : ℕ) → k < i → get_or starts k 0 + get_or lens k 0 ≤ length book
  pub some : (k : ℕ) → k < i → 1 ≤ get_or lens k 0
  pub sum : letters (take i (phrases_in f book starts lens)) + room ≡ 4096

pub fitting-none : (f : ℕ → ℕ) (book starts lens : List ℕ) → Fitting f book starts lens 4096 0
unfolding letters
fitting-none f book starts lens = record { most = omega arith; inside = λ k h. absurd (omega arith); some = λ k h. absurd (omega arith); sum = refl }

module _ {f : ℕ → ℕ} {book starts lens : List ℕ} {room i : ℕ} (pairs : length starts ≡ length lens) (v : Fitting f book starts lens room i) where
  -- with phrase i
  with-next : i < length starts → get_or starts i 0 + get_or lens i 0 ≤ length book → letters (take (suc i) (phrases_in f book starts lens)) + room ≡ 4096 + get_or lens i 0
  with-next h l =
      omega (arith, letters-more (phrases_in f book starts lens) i (omega (arith, phrases-count f book starts lens pairs)), v.sum, phrase-long f book starts lens i pairs h l)

  pub fitting-next : i < length starts → 1 ≤ get_or lens i 0 → get_or starts i 0 + get_or lens i 0 ≤ length book → get_or lens i 0 ≤ room → Fitting f book starts lens (room - get_or lens i 0) (i + 1)
  fitting-next h a b c =
      rw (add-one i) (record {
        most = h;
        inside = λ k l. by-test (λ _. get_or starts k 0 + get_or lens k 0 ≤ length book) (eqb k i) (λ e. rw (eqb-true k i e) b) (λ e. v.inside k (omega (arith, eqb-false k i e)));
        some = λ k l. by-test (λ _. 1 ≤ get_or lens k 0) (eqb k i) (λ e. rw (eqb-true k i e) a) (λ e. v.some k (omega (arith, eqb-false k i e)));
        sum = omega (arith, with-next h b);
      })

  -- too many letters
  pub fitting-over : i < length starts → room < get_or lens i 0 → Good f book starts lens → ⊥
  fitting-over h a g = omega (arith, g.most, with-next h (g.group.inside i h), letters-part (phrases_in f book starts lens) (suc i))

  pub fitting-done : length starts ≤ i → Good f book starts lens
  fitting-done h =
      record {
        group = record { pairs = pairs; inside = λ k l. v.inside k (omega arith); some = λ k l. v.some k (omega arith) };
        most = omega (arith, v.sum, ap letters (take_all i (phrases_in f book starts lens) (omega (arith, phrases-count f book starts lens pairs))));
      }

-- the same, as a phrase comes with its pair of numbers, after `seen` others
module _ {f : ℕ → ℕ} {book starts lens : List ℕ} {room s l : ℕ} {A : Type 0} (seen : List A) (pairs : length starts ≡ length lens) (v : Fitting f book starts lens room (length seen))
    (t : (length seen < length starts) × (length seen < length lens) × ((d : ℕ) → s ≡ get_or starts (length seen) d) × ((d : ℕ) → l ≡ get_or lens (length seen) d)) where
  pub fits_next : (x : A) → (1 ≤ l) × (l ≤ room) × (s + l ≤ length book) → Fitting f book starts lens (room - l) (length (seen ++ x ∷ []))
  fits_next x a =
      let start : s ≡ get_or starts (length seen) 0 = t.2 0 in
      let long : l ≡ get_or lens (length seen) 0 = t.3 0 in
      rw (length_push seen x, long) (fitting-next pairs v t.0 (omega (arith, a.0)) (omega (arith, a.2)) (omega (arith, a.1)))

  pub fits_not : {Z : Type 0} → ((1 ≤ l) × (l ≤ room) × (s + l ≤ length book) → Z) → Good f book starts lens → Z
  fits_not all g =
      let start : s ≡ get_or starts (length seen) 0 = t.2 0 in
      let long : l ≡ get_or lens (length seen) 0 = t.3 0 in
      let few : l ≤ room = by-test (λ _. l ≤ room) (ltb room l) (λ e. let h = ltb-true room l e in absurd (fitting-over pairs v t.0 (omega arith) g)) (λ e. ltb-false room l e) in
      all (omega (arith, g.group.some (length seen) t.0), few, omega (arith, g.group.inside (length seen) t.0))

-- a part of a book of bytes has bytes alone
part-byte : (book : List ℕ) (s m : ℕ) → ((i : ℕ) → get_or book i 0 < 256) → (j : ℕ) → get_or (take m (drop s book)) j 0 < 256
part-byte book s m b j =
    by-test (λ _. get_or (take m (drop s book)) j 0 < 256) (ltb j m)
    (λ e. omega (arith, get_or-take m (drop s book) j 0 (ltb-true j m e), get_or-drop s book j 0, b (s + j)))
    (λ e. omega (arith, get_or-eq_default (take m (drop s book)) 0 {n = j} (omega (arith, length-take m (drop s book), ltb-false j m e))))

-- the letters of the phrases are bytes where those of the book are and a byte folds to a byte
pub phrase-byte : (f : ℕ → ℕ) → ((c : ℕ) → c < 256 → f c < 256) → (book ss ms : List ℕ) → ((i : ℕ) → get_or book i 0 < 256) → (k i : ℕ) → get_or (get_or (phrases_in f book ss ms) k []) i 0 < 256
unfolding phrases_in
phrase-byte f g book [] ms b k i = omega arith
phrase-byte f g book (s ∷ ss) [] b k i = omega arith
phrase-byte f g book (s ∷ ss) (m ∷ ms) b zero i = folded (take m (drop s book)) i (part-byte book s m b)
  where
    folded : (l : List ℕ) (i : ℕ) → ((j : ℕ) → get_or l j 0 < 256) → get_or (map f l) i 0 < 256
    folded [] i c = omega arith
    folded (x ∷ l) zero c = g x (c 0)
    folded (x ∷ l) (suc i) c = folded l i (λ j. c (suc j))
phrase-byte f g book (s ∷ ss) (m ∷ ms) b (suc k) i = phrase-byte f g book ss ms b k i

-- and they are the same by two folds that are the same on bytes
pub phrases-same : (f g : ℕ → ℕ) → ((c : ℕ) → c < 256 → f c ≡ g c) → (book ss ms : List ℕ) → ((i : ℕ) → get_or book i 0 < 256) → phrases_in f book ss ms ≡ phrases_in g book ss ms
unfolding phrases_in
phrases-same f g e book [] ms b = refl
phrases-same f g e book (s ∷ ss) [] b = refl
phrases-same f g e book (s ∷ ss) (m ∷ ms) b = ap₂ (λ p ps. p ∷ ps) (folded (take m (drop s book)) (part-byte book s m b)) (phrases-same f g e book ss ms b)
  where
    folded : (l : List ℕ) → ((j : ℕ) → get_or l j 0 < 256) → map f l ≡ map g l
    folded [] c = refl
    folded (x ∷ l) c = ap₂ (λ y ys. y ∷ ys) (e x (c 0)) (folded l (λ j. c (suc j)))
