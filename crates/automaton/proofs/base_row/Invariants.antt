-- `automaton::base_row`: the first k entries of the row are those of the fail link's.
use Rattle.std.proofs.Common.{◌+◌, get_or}
use Rattle.tries.specs.Rows.{Put}
use Rattle.automaton.proofs.base_row.Given as goal

abbrev pub invariant-loop-k : goal.invariant-loop-k
invariant-loop-k l = Put l.initial.t l.t l.to l.k (λ j. get_or l.initial.t (l.from + j) 0)
