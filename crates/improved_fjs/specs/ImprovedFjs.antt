-- The improved FJS engine's steps (source document 001, Algorithm 6; where no letter follows the window it stops, as FJS does: document 02, (x)). Carrying q letters is the listing's
-- j = q + 1; j at or below 1 carries nothing. The window starts at s and ends at letter s + m.
use Rattle.std.specs.Prelude.{ℕ, zero, suc, ◌+◌, ◌-◌, Bool, false, cond, List, ◌++◌, get_or, eqb}
use Rattle.matching.specs.Letters.{equal_on, reach}
use Rattle.matching.specs.Machine.{Window, Steps, first_to_last}
use Rattle.matching.specs.Find.{Engine}
use Rattle.letter_tables.specs.BadCharacter.{sunday_table}
use Rattle.letter_tables.specs.Gaps.{widest_at, mdp}
use Rattle.letter_tables.specs.Moves.{sunday_move}
use Rattle.border_tables.specs.Kmp.{kmp_table}
use Rattle.border_tables.specs.MaxShift.{max_shift_table}
use Rattle.border_tables.specs.Moves.{kmp_move, max_move}

-- letter mdp is equal
abbrev pub gap_equal : List ℕ → List ℕ → ℕ → Bool
gap_equal P T s = eqb (get_or P (mdp P - 1) 0) (get_or T (s + (mdp P - 1)) 0)

-- nothing is carried and letter mdp differs: the Sunday move
abbrev pub gap_differs : List ℕ → List ℕ → ℕ → Window
gap_differs P T s = record { compared = 1; stands = false; next = sunday_move P T s }

-- nothing is carried and letter mdp is equal: letters 1 to m are compared, letter mdp among them, which counts again. Then j becomes j - MAX_Shift[j]
abbrev pub fresh : List ℕ → List ℕ → ℕ → Window
fresh P T s = let v : Window = first_to_last P T s 0 (max_move P s (reach P T s 0)) in record { compared = suc v.compared; stands = v.stands; next = v.next }

-- a part match is carried: it goes on from j, with no look at letter mdp first. Then j becomes j - KMP_Shift[j], which is b[j]
abbrev pub carried : List ℕ → List ℕ → ℕ → ℕ → Window
carried P T s q = first_to_last P T s q (kmp_move P s (reach P T s q))

-- one window
unfoldable pub window : Steps
unfolding equal_on widest_at sunday_move kmp_move max_move
window P T s zero = cond (gap_equal P T s) (fresh P T s) (gap_differs P T s)
window P T s (suc q) = carried P T s (suc q)

-- 256 Sunday entries, then m + 1 KMP entries, then m + 1 of MAX_Shift
abbrev pub improved_fjs : Engine
improved_fjs = record { entries = λ m. 256 + ((m + 1) + (m + 1)); tables = λ P. sunday_table P ++ (kmp_table P ++ max_shift_table P); steps = window }
