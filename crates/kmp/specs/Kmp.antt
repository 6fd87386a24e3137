-- The KMP engine's steps (document 01, "KMP"; source document 001, section 2.2): left to right; after a mismatch at j, or an occurrence (j is then m + 1), j becomes
-- b[j]; if that is 0, the text position moves on by 1 and j is 1. It stops as soon as the pattern would reach past the text.
use Rattle.std.specs.Prelude.{◌+◌}
use Rattle.matching.specs.Letters.{equal_on, reach}
use Rattle.matching.specs.Machine.{Steps, first_to_last}
use Rattle.matching.specs.Find.{Engine}
use Rattle.border_tables.specs.Kmp.{kmp_table}
use Rattle.border_tables.specs.Moves.{kmp_move}

-- one window: j - 1 letters are carried, and the comparing goes on from letter j
unfoldable pub window : Steps
unfolding equal_on kmp_move
window P T s q = first_to_last P T s q (kmp_move P s (reach P T s q))

-- m + 1 KMP entries
abbrev pub kmp : Engine
kmp = record { entries = λ m. m + 1; tables = kmp_table; steps = window }
