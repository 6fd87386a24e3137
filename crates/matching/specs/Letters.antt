-- Comparing the letters of a pattern P with those of a text T in the window that starts at position s: pair by pair, up to the first unequal pair
-- (document 01, "Definitions and steps": a window's comparing ends at its first unequal pair; each look at one pair counts 1).
use Rattle.std.specs.Prelude.{ℕ, zero, suc, ◌+◌, cond, ◌&&◌, List, [], ◌∷◌, length, get_or, drop, eqb, ltb, leb}

-- first to last: how many pairs at the front of two lists are equal, up to the first unequal pair
unfoldable pub equal_pairs : List ℕ → List ℕ → ℕ
equal_pairs [] ys = 0
equal_pairs (x ∷ xs) [] = 0
equal_pairs (x ∷ xs) (y ∷ ys) = cond (eqb x y) (suc (equal_pairs xs ys)) 0

-- first to last, from letter q + 1 of the pattern on
unfoldable pub equal_on : List ℕ → List ℕ → ℕ → ℕ → ℕ
unfolding equal_pairs
equal_on P T s q = equal_pairs (drop q P) (drop (s + q) T)

-- how many letters are equal from the window's start on, where the first q are known to be
abbrev pub reach : List ℕ → List ℕ → ℕ → ℕ → ℕ
reach P T s q = q + equal_on P T s q

-- last to first, from letter k of the pattern down to its first: how many pairs are equal, up to the first unequal pair
unfoldable pub equal_down : List ℕ → List ℕ → ℕ → ℕ → ℕ
equal_down P T s zero = 0
equal_down P T s (suc k) = cond (eqb (get_or P k 0) (get_or T (s + k) 0)) (suc (equal_down P T s k)) 0

-- the same for any numbers: nothing is compared where the pattern or the text has no such letters
unfoldable pub compared_down : List ℕ → List ℕ → ℕ → ℕ → ℕ
unfolding equal_down
compared_down P T s k = cond (leb k (length P) && leb (s + k) (length T)) (equal_down P T s k) 0

-- the looks that comparing up to `count` pairs costs where `equal` of them are equal: one a pair, the unequal one that ends it included
abbrev pub looks : ℕ → ℕ → ℕ
looks count equal = cond (ltb equal count) (suc equal) equal
