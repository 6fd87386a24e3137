-- Horspool's steps (document 01, "Horspool"): last letter to first; then move by the entry of the text letter under the pattern's end.
use Rattle.std.specs.Prelude.{length}
use Rattle.matching.specs.Letters.{equal_down}
use Rattle.matching.specs.Machine.{Steps, last_to_first}
use Rattle.matching.specs.Find.{Engine}
use Rattle.letter_tables.specs.BadCharacter.{horspool_table}
use Rattle.letter_tables.specs.Moves.{horspool_move}

-- one window
unfoldable pub window : Steps
unfolding equal_down horspool_move
window P T s q = last_to_first P T s (length P) (horspool_move P T s)

-- 256 Horspool entries
abbrev pub horspool : Engine
horspool = record { entries = λ m. 256; tables = horspool_table; steps = window }
