-- `automaton::link`: the states below x have their links, and of the first `count` their rows.
use Rattle.automaton.proofs.Linking.{Passing}
use Rattle.automaton.proofs.link.Given as goal

abbrev pub invariant-loop-x : goal.invariant-loop-x
invariant-loop-x l = Passing l.fn.t l.t l.shape.width l.shape.count l.n l.x
