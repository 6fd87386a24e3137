-- The Franek-Jennings-Smyth engine's steps (source document 001, Algorithm 3, as document 01, "FJS", words it). Carrying q letters is the listing's j = q + 1; b[j] of 0 and
-- of 1 both carry nothing. The window starts at s and ends at letter s + m.
use Rattle.std.specs.Prelude.{ℕ, zero, suc, ◌+◌, ◌-◌, ◌*◌, ◌≤◌, Bool, false, cond, List, ◌++◌, length, get_or, take, drop, eqb}
use Rattle.matching.specs.Letters.{equal_pairs, equal_on, reach, looks}
use Rattle.matching.specs.Machine.{Window, Steps, first_to_last}
use Rattle.matching.specs.Find.{Engine}
use Rattle.letter_tables.specs.BadCharacter.{sunday_table}
use Rattle.border_tables.specs.Kmp.{kmp_table}
use Rattle.letter_tables.specs.Moves.{sunday_move}
use Rattle.border_tables.specs.Moves.{kmp_move}

-- which rule moves the window; a list of moves calls them 1 and 2
pub data Rule : Type 0 where
  sunday : Rule
  kmp : Rule

-- a window, with the rule that moves on from it
pub record Step : Type 0 where
  pub window : Window
  pub rule : Rule

-- the last letter is equal
abbrev pub end_equal : List ℕ → List ℕ → ℕ → Bool
end_equal P T s = eqb (get_or P (length P - 1) 0) (get_or T (s + (length P - 1)) 0)

-- how many of the letters 1 to m - 1 are equal, up to the first unequal pair
abbrev pub before : List ℕ → List ℕ → ℕ → ℕ
before P T s = equal_pairs (take (length P - 1) P) (drop s T)

-- nothing is carried and the last letter differs: the Sunday move
abbrev pub ended : List ℕ → List ℕ → ℕ → Step
ended P T s = record { window = record { compared = 1; stands = false; next = sunday_move P T s }; rule = sunday }

-- nothing is carried and the last letter is equal: letters 1 to m - 1 are compared; if all are equal, j is m + 1 and i the letter after the window. Then j becomes b[j]
abbrev pub fresh : List ℕ → List ℕ → ℕ → Step
fresh P T s =
    let all : Bool = eqb (before P T s) (length P - 1) in
    record {
      window = record { compared = suc (looks (length P - 1) (before P T s)); stands = all; next = kmp_move P s (cond all (length P) (before P T s)) };
      rule = kmp;
    }

-- a part match is carried: it goes on from j, up to and including letter m, with no test of the end first. Then j becomes b[j]
abbrev pub carried : List ℕ → List ℕ → ℕ → ℕ → Step
carried P T s q = record { window = first_to_last P T s q (kmp_move P s (reach P T s q)); rule = kmp }

-- one step
unfoldable pub step : List ℕ → List ℕ → ℕ → ℕ → Step
unfolding equal_pairs equal_on sunday_move kmp_move
step P T s zero = cond (end_equal P T s) (fresh P T s) (ended P T s)
step P T s (suc q) = carried P T s (suc q)

-- its window, as the machine runs it
unfoldable pub window : Steps
unfolding step
window P T s q = (step P T s q).window

-- 256 Sunday entries, then m + 1 KMP entries
abbrev pub fjs : Engine
fjs = record { entries = λ m. 256 + (m + 1); tables = λ P. sunday_table P ++ kmp_table P; steps = window }

-- demand 3: at most 3n - 2m comparisons, where the pattern is no longer than the text
abbrev pub Bounded : List ℕ → List ℕ → ℕ → Type 0
Bounded P T comparisons = length P ≤ length T → comparisons ≤ 3 * length T - 2 * length P
