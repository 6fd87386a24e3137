-- `Phrases::grow_level`: the phrases before i have letter d in the trie.
use Rattle.tries.specs.Group.{Growing}
use Rattle.automaton.specs.Words.{words}
use Rattle.automaton.proofs.Phrases.grow_level.Given as goal

abbrev pub invariant-loop-i : goal.invariant-loop-i
invariant-loop-i l = Growing (words l.self) l.t l.at l.count l.d l.i
