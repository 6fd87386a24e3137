-- Boyer-Moore's steps (document 02, (ii); source document 002, Algorithm 5): last letter to first; on a mismatch the text pointer moves by the larger of DELTA1 and DELTA2, after an occurrence
-- the pattern moves by m less its longest proper border. Letters count from 1, as they do there: letter j of the pattern lies over letter s + j of the text.
use Rattle.std.specs.Prelude.{ℕ, ◌+◌, ◌-◌, max, cond, List, ◌++◌, length, ltb}
use Rattle.matching.specs.Letters.{equal_down}
use Rattle.matching.specs.Machine.{State, at, Steps, last_to_first}
use Rattle.matching.specs.Find.{Engine}
use Rattle.letter_tables.specs.BadCharacter.{last_in, delta1_entry, delta1_table}
use Rattle.border_tables.specs.Moves.{border_move}
use Rattle.suffix_tables.specs.Delta2.{letter, shift, delta2_entry, delta2_table}

-- the larger value, where letter j of the window at s is the first unequal one
unfoldable pub larger : List ℕ → List ℕ → ℕ → ℕ → ℕ
unfolding last_in shift
larger P T s j = max (delta1_entry P (letter T (s + j))) (delta2_entry P j)

-- there the text pointer stands at letter s + j; it moves on by the larger value, and the next window ends where it then stands
unfoldable pub mismatch_move : List ℕ → List ℕ → ℕ → ℕ → State
unfolding larger
mismatch_move P T s j = at (s + j + larger P T s j - length P) 0

-- where the last e letters of the window are equal: if these are not all, letter m - e is the first unequal one; if they are, it is an occurrence
unfoldable pub boyer_moore_move : List ℕ → List ℕ → ℕ → ℕ → State
unfolding mismatch_move border_move
boyer_moore_move P T s e = cond (ltb e (length P)) (mismatch_move P T s (length P - e)) (border_move P s)

-- one window
unfoldable pub window : Steps
unfolding equal_down boyer_moore_move
window P T s q = last_to_first P T s (length P) (boyer_moore_move P T s (equal_down P T s (length P)))

-- 256 DELTA1 entries, then DELTA2 of 1 to m
abbrev pub boyer_moore : Engine
boyer_moore = record { entries = λ m. 256 + m; tables = λ P. delta1_table P ++ delta2_table P; steps = window }
