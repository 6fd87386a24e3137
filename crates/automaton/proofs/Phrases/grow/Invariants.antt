-- `Phrases::grow`: the letters before d are in the trie.
use Rattle.tries.specs.Group.{Growing}
use Rattle.automaton.specs.Words.{words}
use Rattle.automaton.proofs.Phrases.grow.Given as goal

abbrev pub invariant-loop-d : goal.invariant-loop-d
invariant-loop-d l = Growing (words l.self) l.t l.at l.n l.d 0
