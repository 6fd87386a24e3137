-- `automaton::classes`: with no state there is no class, and the next state's letter gets its own.
use Rattle.std.proofs.Common.{arith}
use Rattle.automaton.proofs.Entries.{fill_put}
use Rattle.automaton.proofs.Classing.{classing_first, classing_next, classing_done}
use Rattle.automaton.proofs.classes.Goals as goal

pub loop-x-init : goal.loop-x-init
loop-x-init c = classing_first (fill_put c.args.t.now _ 32776 256 (c.fill.ensures.after (λ y e. e)) c.requires.1.room)

pub loop-x-preserved : goal.loop-x-preserved
loop-x-preserved c = classing_next c.requires c.loop-x.invariant (omega arith) c.loop-x-test.true c.classify-w.ensures

pub returns : goal.returns
returns c = classing_done c.requires c.loop-x.invariant c.loop-x-test.false c.loop-x.auto.x-end
