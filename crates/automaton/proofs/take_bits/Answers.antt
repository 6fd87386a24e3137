-- `automaton::take_bits`: the lowest bit is that of a phrase, which is no longer than what was read.
use Rattle.automaton.proofs.Walks.{taking_bit, taking_short, taking_needs, taking_next, taking_done}
use Rattle.automaton.proofs.take_bits.Goals as goal

pub bounds-lens-k : goal.bounds-lens-k
bounds-lens-k c = taking_bit c.requires c.loop-b.invariant c.loop-b-test.true

pub overflow_sub-end : goal.overflow_sub-end
overflow_sub-end c = taking_short c.requires c.loop-b.invariant c.loop-b-test.true

pub count_down-requires : goal.count_down-requires
count_down-requires c = taking_needs c.requires c.loop-b.invariant c.loop-b-test.true

pub loop-b-preserved : goal.loop-b-preserved
loop-b-preserved c = taking_next c.requires c.loop-b.invariant c.loop-b-test.true c.count_down.ensures

pub returns : goal.returns
returns c = taking_done c.loop-b.invariant c.loop-b-test.false
