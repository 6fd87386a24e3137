-- `put_numbers`: one field after another.
use Rattle.std.proofs.Common.{arith, length-take}
use Rattle.finder_lines.proofs.Fields.{laid_none_yet, laid_one_more, laid_all_of}
use Rattle.finder_lines.proofs.put_numbers.Goals as goal

pub loop-number-init : goal.loop-number-init
loop-number-init c = laid_none_yet c.args.buffer.now c.args.at c.args.list.now

pub loop-number-preserved : goal.loop-number-preserved
loop-number-preserved c = laid_one_more c.loop-number.invariant c.min.result (omega arith) c.put_number-next.ensures

pub returns : goal.returns
returns c = laid_all_of c.loop-number.invariant c.args.count (omega (arith, length-take c.min.result c.args.list.now))
