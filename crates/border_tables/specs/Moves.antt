-- The moves that engines make by the borders of a pattern, as states of the window machine: where the next window starts, and how many letters it carries.
use Rattle.std.specs.Prelude.{ℕ, suc, ◌+◌, ◌-◌, List, length}
use Rattle.matching.specs.Machine.{State, at}
use Rattle.border_tables.specs.Kmp.{longest_border, kmp_entry}
use Rattle.border_tables.specs.MaxShift.{max_shift}

-- KMP, where r letters of the window at s are equal and the next is not, or r = m: j = r + 1 becomes b[j] and text letter s + r stays under it. If b[j] is 0,
-- the text position moves on by 1 and j is 1. So the window starts at s + j - b[j], with b[j] - 1 letters carried, none where b[j] is 0
unfoldable pub kmp_move : List ℕ → ℕ → ℕ → State
unfolding kmp_entry
kmp_move P s r = at (s + suc r - kmp_entry P r) (kmp_entry P r - 1)

-- after an occurrence (document 02, (ii)): by m less the longest proper border, with nothing carried
unfoldable pub border_move : List ℕ → ℕ → State
unfolding longest_border
border_move P s = at (s + (length P - longest_border P)) 0

-- the improved engine, after a window that carried nothing (source document 001, Algorithm 6), where r letters of the window at s are equal and the next is not, or r = m: j = r + 1 becomes
-- j - MAX_Shift[j] and text letter s + r stays under it. So the window starts at s + MAX_Shift[j], with j - MAX_Shift[j] - 1 letters carried, none where this is 0 or below
unfoldable pub max_move : List ℕ → ℕ → ℕ → State
unfolding max_shift
max_move P s r = at (s + max_shift P r) (suc r - max_shift P r - 1)
