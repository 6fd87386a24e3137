-- What `find` and `find_moves` ask of the search that they share. Not part of any public promise.
use Rattle.std.specs.Prelude.{◌≡◌, ℕ, ◌+◌, cond, List, length}
use Rattle.matching.specs.declared.Tally.{Tally}
use Rattle.matching.specs.Occurrences.{occurrences}
use Rattle.matching.specs.Received.{received}
use Rattle.matching.specs.Find.{compared, accepts}
use Rattle.fjs_steps.specs.Fjs.{fjs}
use Rattle.fjs_steps.specs.Moves.{put_move}
use Rattle.fjs.specs.declared.MoveList.{MoveList}
use Rattle.fjs.specs.declared.Rule.{Rule}
use Rattle.fjs.specs.declared.Rule.TheVariants.{Sunday, Kmp}

-- the scratch after the tables were made, or not, where the call is refused
abbrev pub prepared : List ℕ → List ℕ → List ℕ → List ℕ
prepared P T scratch = cond (accepts fjs P T scratch) (received scratch (fjs.tables P)) scratch

-- a rule by its number
abbrev pub number_of : Rule → ℕ
number_of Sunday = 1
number_of Kmp = 2

-- a list of moves after one move more: its three numbers stand at its index, whole or not at all, and it is counted
abbrev pub after_move : MoveList → ℕ → ℕ → ℕ → MoveList
after_move n old new rule = record n { list = record n.list { now = put_move n.list.now n.count old new rule }; count = n.count + 1 }

-- the search ends with the text: all occurrences are found, with the comparisons of the whole run
pub record Searched (P T list : List ℕ) (r : Tally) (list' : List ℕ) : Type 0 where
  pub total : r.total ≡ length (occurrences P T)
  pub comparisons : r.comparisons ≡ compared fjs P T
  pub listed : list' ≡ received list (occurrences P T)
