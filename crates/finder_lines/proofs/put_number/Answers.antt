-- `put_number`: one digit after another, and in the end the whole field.
use Rattle.std.proofs.Common.{arith}
use Rattle.finder_lines.proofs.Decimal.{found_none, found_next, found_all}
use Rattle.finder_lines.proofs.put_number.Goals as goal

pub loop-rest-init : goal.loop-rest-init
loop-rest-init c = found_none c.args.value (omega arith)

pub loop-rest-preserved : goal.loop-rest-preserved
loop-rest-preserved c = found_next c.loop-rest.invariant (omega arith)

pub returns : goal.returns
returns c = rw (found_all c.loop-rest.invariant (omega arith)) at c.put_bytes.ensures
