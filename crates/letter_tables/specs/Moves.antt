-- The moves that engines make by the tables of letters, as states of the window machine: where the next window starts, and how many letters it carries.
use Rattle.std.specs.Prelude.{ℕ, ◌+◌, ◌-◌, cond, List, length, get_or, ltb}
use Rattle.matching.specs.Machine.{State, stop, at}
use Rattle.letter_tables.specs.BadCharacter.{sunday_entry, horspool_entry, last_in}

-- Horspool: by the entry of the text letter under the pattern's end
unfoldable pub horspool_move : List ℕ → List ℕ → ℕ → State
unfolding last_in
horspool_move P T s = at (s + horspool_entry P (get_or T (s + (length P - 1)) 0)) 0

-- Sunday: by the entry of the text letter after the window; if there is none, stop
unfoldable pub sunday_move : List ℕ → List ℕ → ℕ → State
unfolding last_in
sunday_move P T s = cond (ltb (s + length P) (length T)) (at (s + sunday_entry P (get_or T (s + length P) 0)) 0) stop
