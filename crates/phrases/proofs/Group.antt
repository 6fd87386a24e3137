-- The phrases of a group by their places in a book: how many, each one, and its letters. Assumes nothing.
use mathlib.Core.Path.{◌≡◌, refl, sym, ap, ◌∙◌}
use Prim.Native.Nat.{ℕ, zero, suc, ◌+◌, ◌-◌, ◌≤◌, ◌<◌}
use native.Mathlib.Omega.{arith}
use mathlib.Core.List.{List, [], ◌∷◌, map}
use lib.ListN.{length, get_or, take, drop, length-take, length-drop, length-map}
use Rattle.phrases.specs.Phrases.{phrases_in}

module _ (f : ℕ → ℕ) (book : List ℕ) where
  pub phrases-count : (ss ms : List ℕ) → length ss ≡ length ms → length (phrases_in f book ss ms) ≡ length ss
  unfolding phrases_in
  phrases-count [] ms e = refl
  phrases-count (s ∷ ss) [] e = absurd (omega arith)
  phrases-count (s ∷ ss) (m ∷ ms) e = ap suc (phrases-count ss ms (omega arith))

  pub phrase-at : (ss ms : List ℕ) (k : ℕ) → length ss ≡ length ms → k < length ss → get_or (phrases_in f book ss ms) k [] ≡ map f (take (get_or ms k 0) (drop (get_or ss k 0) book))
  unfolding phrases_in
  phrase-at [] ms k e h = absurd (omega arith)
  phrase-at (s ∷ ss) [] k e h = absurd (omega arith)
  phrase-at (s ∷ ss) (m ∷ ms) zero e h = refl
  phrase-at (s ∷ ss) (m ∷ ms) (suc k) e h = phrase-at ss ms k (omega arith) (omega arith)

  -- a phrase that stands in the book has the length that is said
  pub phrase-long : (ss ms : List ℕ) (k : ℕ) → length ss ≡ length ms → k < length ss → get_or ss k 0 + get_or ms k 0 ≤ length book → length (get_or (phrases_in f book ss ms) k []) ≡ get_or ms k 0
  phrase-long ss ms k e h l =
      ap length (phrase-at ss ms k e h) ∙ length-map (take (get_or ms k 0) (drop (get_or ss k 0) book)) f ∙ length-take (get_or ms k 0) (drop (get_or ss k 0) book) ∙ omega (arith, length-drop (get_or ss k 0) book)

  -- as a part of the book is lent
  pub part-is : (ss ms : List ℕ) (k : ℕ) → length ss ≡ length ms → k < length ss → map f (take (get_or ss k 0 + get_or ms k 0 - get_or ss k 0) (drop (get_or ss k 0) book)) ≡ get_or (phrases_in f book ss ms) k []
  part-is ss ms k e h = let z : get_or ss k 0 + get_or ms k 0 - get_or ss k 0 ≡ get_or ms k 0 = omega arith in rw z (sym (phrase-at ss ms k e h))
