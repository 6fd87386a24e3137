-- `automaton::take_bits`: the bits in b are still to be taken.
use Rattle.automaton.proofs.Walks.{Taking}
use Rattle.automaton.proofs.take_bits.Given as goal

abbrev pub invariant-loop-b : goal.invariant-loop-b
invariant-loop-b l = Taking l.bits l.end l.lens l.fn.left l.fn.place l.left l.place l.b

abbrev pub decreases-loop-b : goal.decreases-loop-b
decreases-loop-b l = l.b
