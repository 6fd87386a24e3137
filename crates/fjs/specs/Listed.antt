-- What a find with a list of moves gives and leaves (document 02, (xi)).
use Rattle.std.specs.Prelude.{◌≡◌, ℕ, cond, List, length, Result, Ok, Err}
use Rattle.matching.specs.declared.refusal.Refusal.{Refusal}
use Rattle.matching.specs.declared.Finding.{Finding}
use Rattle.matching.specs.Received.{received}
use Rattle.matching.specs.Find.{accepts}
use Rattle.matching.specs.Results.{number_of}
use Rattle.fjs_steps.specs.Fjs.{fjs}
use Rattle.fjs_steps.specs.Moves.{moves, fitting}
use Rattle.fjs.specs.declared.MovesFinding.{MovesFinding}
use Rattle.fjs.specs.declared.MovesTally.{MovesTally}

-- what it gives, as C receives it: a refused one has no occurrences, comparisons and moves
abbrev pub moves_finding : Result MovesTally Refusal → MovesFinding
moves_finding (Ok t) = record { refusal = 0; total = t.total; comparisons = t.comparisons; moves = t.moves }
moves_finding (Err r) = record { refusal = number_of r; total = 0; comparisons = 0; moves = 0 }

-- what it gives as a find
abbrev pub finding : MovesFinding → Finding
finding r = record { refusal = r.refusal; total = r.total; comparisons = r.comparisons }

-- the full total of moves, and the list of moves as the call leaves it; refused: 0, and the list as before
pub record Listed (P T scratch list : List ℕ) (r : MovesFinding) (list' : List ℕ) : Type 0 where
  pub counted : r.moves ≡ cond (accepts fjs P T scratch) (length (moves P T)) 0
  pub listed : list' ≡ cond (accepts fjs P T scratch) (received list (fitting (length list) (moves P T))) list
