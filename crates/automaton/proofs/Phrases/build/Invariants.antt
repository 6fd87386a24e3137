-- `Phrases::build`: the phrases before i have their bits.
use Rattle.tries.proofs.Marking.{Marking}
use Rattle.automaton.specs.Words.{words}
use Rattle.automaton.proofs.Phrases.build.Given as goal

abbrev pub invariant-loop-i : goal.invariant-loop-i
invariant-loop-i l = Marking (words l.self) l.t l.s-items l.n l.i
