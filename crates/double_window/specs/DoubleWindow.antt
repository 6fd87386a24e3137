-- The double window's steps (document 01, "Double window"; document 02 (v); source document 004). u is the text letter under the window's end, v the one m places on.
use Rattle.std.specs.Prelude.{ℕ, ◌+◌, ◌-◌, ◌*◌, cond, false, List, length, get_or, eqb, ltb}
use Rattle.matching.specs.Letters.{equal_down}
use Rattle.matching.specs.Machine.{Steps, at, last_to_first}
use Rattle.matching.specs.Find.{Engine}
use Rattle.letter_tables.specs.BadCharacter.{horspool_table}
use Rattle.letter_tables.specs.DoubleWindow.{end_entry, double_entry}
use Rattle.letter_tables.specs.Moves.{horspool_move}

-- u, the text letter under the end of the window at s
abbrev pub under : List ℕ → List ℕ → ℕ → ℕ
under P T s = get_or T (s + (length P - 1)) 0

-- v, the text letter m places on
abbrev pub beyond : List ℕ → List ℕ → ℕ → ℕ
beyond P T s = get_or T (s + (2 * length P - 1)) 0

-- the entry of (u, v), or the move by u alone where v lies past the text
unfoldable pub jump : List ℕ → List ℕ → ℕ → ℕ
unfolding double_entry end_entry
jump P T s = cond (ltb (s + (2 * length P - 1)) (length T)) (double_entry P (under P T s) (beyond P T s)) (end_entry P (under P T s))

-- one window: move by the entry unless it is 0; at 0 compare letters m - 1 down to 1 (the end is known equal), then move by Horspool's entry. The looks at u and v do
-- not count
unfoldable pub window : Steps
unfolding jump equal_down horspool_move
window P T s q =
    cond (eqb (jump P T s) 0)
    (last_to_first P T s (length P - 1) (horspool_move P T s))
    (record { compared = 0; stands = false; next = at (s + jump P T s) 0 })

-- 256 entries, Horspool's
abbrev pub double_window : Engine
double_window = record { entries = λ m. 256; tables = horspool_table; steps = window }
