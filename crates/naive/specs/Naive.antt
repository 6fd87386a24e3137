-- The naive engine's steps (document 01, "Naive"; source document 001, section 2.1): each start in turn, left to right, up to the first unequal pair; move 1.
use Rattle.std.specs.Prelude.{◌+◌, []}
use Rattle.matching.specs.Machine.{Steps, at, first_to_last}
use Rattle.matching.specs.Letters.{equal_on}
use Rattle.matching.specs.Find.{Engine}

-- one window
unfoldable pub window : Steps
unfolding equal_on
window P T s q = first_to_last P T s 0 (at (s + 1) 0)

-- it needs no table
abbrev pub naive : Engine
naive = record { entries = λ m. 0; tables = λ P. []; steps = window }
