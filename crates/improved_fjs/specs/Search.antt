-- What `find` asks of its search. Not part of any public promise.
use Rattle.std.specs.Prelude.{◌≡◌, ℕ, ◌+◌, ◌-◌, ◌<◌, ◌≤◌, List, ◌++◌, length}
use Rattle.matching.specs.declared.Tally.{Tally}
use Rattle.matching.specs.Occurrences.{occurrences}
use Rattle.matching.specs.Received.{received}
use Rattle.matching.specs.Find.{compared}
use Rattle.letter_tables.specs.Gaps.{mdp}
use Rattle.improved_fjs.specs.ImprovedFjs.{improved_fjs}

-- the limits of a find are kept, the tables stand at the scratch's front, and letter mdp stands at that place of the pattern
pub record Ready (P T scratch : List ℕ) (place : ℕ) : Type 0 where
  pub some : 1 ≤ length P
  pub short : length P ≤ 1024
  pub small : length T ≤ 32768
  pub rest : List ℕ
  pub tables : scratch ≡ improved_fjs.tables P ++ rest
  pub room : 256 + ((length P + 1) + (length P + 1)) ≤ length scratch
  pub gap : place ≡ mdp P - 1
  pub inside : place < length P

-- all occurrences are found, with the comparisons of the whole run
pub record Searched (P T list : List ℕ) (r : Tally) (list' : List ℕ) : Type 0 where
  pub answer : r ≡ record { total = length (occurrences P T); comparisons = compared improved_fjs P T }
  pub listed : list' ≡ received list (occurrences P T)
