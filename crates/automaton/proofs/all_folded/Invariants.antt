-- `automaton::all_folded`: the letters below c stand in the table.
use Rattle.std.proofs.Common.{◌≡◌, ℕ, ◌<◌, length, get_or}
use Rattle.fold.specs.Fold.{fold_on}
use Rattle.automaton.proofs.all_folded.Given as goal

abbrev pub invariant-loop-c : goal.invariant-loop-c
invariant-loop-c l = (length l.folds ≡ 256) × ((k : ℕ) → k < l.c → get_or l.folds k 0 ≡ fold_on l.page k)
