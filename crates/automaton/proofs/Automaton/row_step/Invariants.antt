-- `Automaton::row_step`: the state after the letter is the same from the state that is looked at.
use Rattle.automaton.proofs.Stepping.{Along}
use Rattle.automaton.proofs.Automaton.row_step.Given as goal

abbrev pub invariant-loop-at : goal.invariant-loop-at
invariant-loop-at l = Along l.self.entries.now l.self.shape.width l.self.shape.count l.s l.c l.at

abbrev pub decreases-loop-at : goal.decreases-loop-at
decreases-loop-at l = l.at
