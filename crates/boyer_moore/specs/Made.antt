-- Both tables as they stand in the scratch. Not part of any public promise.
use Rattle.std.specs.Prelude.{ℕ, suc, ◌+◌, ◌≤◌, List, length}
use Rattle.tables.specs.Tables.{Entries}
use Rattle.letter_tables.specs.BadCharacter.{delta1_entry}
use Rattle.suffix_tables.specs.Delta2.{delta2_entry}

-- 256 DELTA1 entries and then DELTA2 of 1 to m, of a pattern that a find takes
pub record Made (P scratch : List ℕ) : Type 0 where
  pub short : length P ≤ 1024
  pub room : 256 + length P ≤ length scratch
  pub delta1 : Entries 0 256 (delta1_entry P) scratch
  pub delta2 : Entries 256 (length P) (λ q. delta2_entry P (suc q)) scratch
