-- `automaton::join`: the parts before entry j are joined.
use Rattle.automaton.proofs.Entries.{Joining}
use Rattle.automaton.proofs.join.Given as goal

abbrev pub invariant-loop-j : goal.invariant-loop-j
invariant-loop-j l = Joining l.fn.t l.x l.f l.t l.j
