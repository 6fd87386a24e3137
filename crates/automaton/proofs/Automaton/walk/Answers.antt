-- `Automaton::walk`: a letter that is read gives the next state and the phrases that end with it.
use Rattle.std.proofs.Common.{refl, arith}
use Rattle.automaton.proofs.Walks.{walking_start, walking_stands, walking_counters, walking_next, walking_done}
use Rattle.automaton.proofs.Automaton.walk.Goals as goal

pub loop-c-init : goal.loop-c-init
loop-c-init c = let a = c.args in (walking_start a.self.entries.now a.self.shape.width a.self.shape.count a.text.now a.lens.now a.left.now a.place.now, refl)

pub read-letter-requires : goal.read-letter-requires
read-letter-requires c = walking_stands c.requires c.loop-c.invariant.0

pub take_bits-requires : goal.take_bits-requires
take_bits-requires c = rw c.loop-c.invariant.1 (walking_counters c.requires c.loop-c.invariant.0 c.loop-c-test.true (omega arith) c.read-letter.ensures)

pub loop-c-preserved : goal.loop-c-preserved
loop-c-preserved c = (walking_next c.requires c.loop-c.invariant.0 c.loop-c-test.true (omega arith) c.read-letter.ensures c.take_bits.auto.left c.take_bits.auto.place (rw c.loop-c.invariant.1 at c.take_bits.ensures), omega arith)

pub returns : goal.returns
returns c = rw c.loop-c.invariant.1 (walking_done c.loop-c.invariant.0 c.loop-c-test.false)
