-- `Automaton::walk`: so many letters were read, and the rest of the walk goes on from the state.
use Rattle.std.proofs.Common.{◌≡◌}
use Rattle.automaton.proofs.Walks.{Walking}
use Rattle.automaton.proofs.Automaton.walk.Given as goal

abbrev pub invariant-loop-c : goal.invariant-loop-c
invariant-loop-c l = Walking l.self.entries.now l.self.shape.width l.self.shape.count l.text l.lens l.fn.left l.fn.place l.left l.place l.state l.c-index × (l.reads ≡ l.c-index)
