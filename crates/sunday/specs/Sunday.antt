-- Sunday's steps (document 01, "Sunday"; source document 001, section 2.3): left to right; then move by the entry of the text letter after the window; if there is
-- none, stop.
use Rattle.matching.specs.Letters.{equal_on}
use Rattle.matching.specs.Machine.{Steps, first_to_last}
use Rattle.matching.specs.Find.{Engine}
use Rattle.letter_tables.specs.BadCharacter.{sunday_table}
use Rattle.letter_tables.specs.Moves.{sunday_move}

-- one window
unfoldable pub window : Steps
unfolding equal_on sunday_move
window P T s q = first_to_last P T s 0 (sunday_move P T s)

-- 256 Sunday entries
abbrev pub sunday : Engine
sunday = record { entries = λ m. 256; tables = sunday_table; steps = window }
