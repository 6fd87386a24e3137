-- `automaton::child`: what is looked for from x on is what is asked for.
use Rattle.automaton.proofs.Children.{Looking}
use Rattle.automaton.proofs.child.Given as goal

abbrev pub invariant-loop-x : goal.invariant-loop-x
invariant-loop-x l = Looking l.t l.s l.c l.x

abbrev pub decreases-loop-x : goal.decreases-loop-x
decreases-loop-x l = l.x
