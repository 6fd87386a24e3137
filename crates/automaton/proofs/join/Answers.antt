-- `automaton::join`: the parts are joined one after another.
use Rattle.std.proofs.Common.{arith}
use Rattle.automaton.proofs.Entries.{joining_first, joining_next, joining_done}
use Rattle.automaton.proofs.join.Goals as goal

pub loop-j-init : goal.loop-j-init
loop-j-init c = joining_first c.args.t.now c.args.x c.args.f

pub loop-j-preserved : goal.loop-j-preserved
loop-j-preserved c = joining_next c.loop-j.invariant (omega arith) (omega arith) (omega arith)

pub returns : goal.returns
returns c = joining_done c.loop-j.invariant (omega arith)
