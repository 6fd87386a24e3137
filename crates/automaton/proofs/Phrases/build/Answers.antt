-- `Phrases::build`: the trie, and then the bit of a phrase after another.
use Rattle.std.proofs.Common.{length}
use Rattle.automaton.proofs.Levels.{take_zeros, marks_needs, marks_next, marks_done}
use Rattle.tries.proofs.Marking.{marking-none}
use Rattle.automaton.proofs.Phrases.build.Goals as goal

pub grow-n-requires : goal.grow-n-requires
grow-n-requires c = (c.requires.1, take_zeros (length c.args.self.starts.now) 64 c.requires.0)

pub loop-i-init : goal.loop-i-init
loop-i-init c = marking-none c.grow-n.ensures

pub mark-requires : goal.mark-requires
mark-requires c = marks_needs c.args.self c.requires.0 c.loop-i.invariant c.grow-n.auto.at c.loop-i-test.true

pub loop-i-preserved : goal.loop-i-preserved
loop-i-preserved c = marks_next c.args.self c.requires.0 c.loop-i.invariant c.grow-n.auto.at c.loop-i-test.true c.mark.ensures

pub returns : goal.returns
returns c = marks_done c.args.self c.requires.0 c.loop-i.invariant c.grow-n.auto.at c.loop-i-test.false
