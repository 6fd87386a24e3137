-- `add_to_each`: the number is added to the first i entries.
use Rattle.late_cuts.proofs.Lists.{Added}
use Rattle.late_cuts.proofs.add_to_each.Given as goal

abbrev pub invariant-loop-i : goal.invariant-loop-i
invariant-loop-i l = Added l.number l.initial.list l.list l.i
