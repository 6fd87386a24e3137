-- `automaton::add`: the entries of the new state, and then its parent's latest child.
use Rattle.std.proofs.Common.{◌+◌, ◌*◌, set, ap, arith}
use Rattle.tries.specs.Tables.{added}
use Rattle.automaton.proofs.Entries.{state_sets}
use Rattle.automaton.proofs.add.Goals as goal

pub returns : goal.returns
unfolding added
returns c = let a = c.args in ap (λ l. set l (8 * a.s + 1) a.x) (state_sets a.t.now _ (8 * a.x) _ a.c _ a.s (c.fill.ensures.after (λ y e. e)) (omega arith) (omega arith))
