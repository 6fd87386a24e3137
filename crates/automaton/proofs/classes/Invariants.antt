-- `automaton::classes`: the letters of the states below x have their classes.
use Rattle.automaton.proofs.Classing.{Classing}
use Rattle.automaton.proofs.classes.Given as goal

abbrev pub invariant-loop-x : goal.invariant-loop-x
invariant-loop-x l = Classing l.fn.t l.initial.t l.t l.x l.w
