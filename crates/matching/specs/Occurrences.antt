-- The exact matching problem (source document 001, section 2.1): all positions of a text T at which its next m letters are the pattern P.
-- Positions count from 0 here, as in document 01's lists; document 01 calls a pattern a phrase and a position a place.
-- That the list holds exactly these positions, and strictly rises, is shown in proofs/Occurrences.antt (`occurrences-are`, `occurrences-rise`).
use Rattle.std.specs.Prelude.{◌≡◌, ℕ, zero, suc, ◌+◌, ◌≤◌, Bool, true, false, cond, ◌&&◌, List, [], ◌∷◌, length, take, drop, eqb, leb}

-- whether two lists of letters are equal
unfoldable pub same : List ℕ → List ℕ → Bool
same [] [] = true
same [] (y ∷ ys) = false
same (x ∷ xs) [] = false
same (x ∷ xs) (y ∷ ys) = eqb x y && same xs ys

-- whether P stands at k: the m letters of T from k on are P (fewer than m are not)
unfoldable pub occurs_at : List ℕ → List ℕ → ℕ → Bool
unfolding same
occurs_at P T k = same (take (length P) (drop k T)) P

-- those of the c positions from k on at which P stands, rising
unfoldable pub occurs_from : ℕ → List ℕ → List ℕ → ℕ → List ℕ
unfolding occurs_at
occurs_from zero P T k = []
occurs_from (suc c) P T k = let rest = occurs_from c P T (suc k) in cond (occurs_at P T k) (k ∷ rest) rest

-- all positions at which P stands, rising; positions 0 to n are tried, so that the laws hold for the empty pattern too
unfoldable pub occurrences : List ℕ → List ℕ → List ℕ
unfolding occurs_from
occurrences P T = occurs_from (suc (length T)) P T 0

-- what source document 001 asks of a position: the pattern lies within the text there, and the text's letters from there on are the pattern's
pub record Occurs (P T : List ℕ) (k : ℕ) : Type 0 where
  pub inside : k + length P ≤ length T
  pub equal : take (length P) (drop k T) ≡ P

-- whether there is an occurrence of that ordinal among these positions, 1 being the first
abbrev pub has_nth : List ℕ → ℕ → Bool
has_nth positions ordinal = leb 1 ordinal && leb ordinal (length positions)
