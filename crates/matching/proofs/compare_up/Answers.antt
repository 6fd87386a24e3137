-- `matching::compare_up` stops at the first unequal pair, by one step of the definition, or at the end of either.
use Rattle.std.proofs.Common.{arith}
use Rattle.matching.proofs.Letters.{pairs-next, pairs-end, pairs-over}
use Rattle.matching.proofs.compare_up.Goals as goal

pub returns-then-pattern-k-clause-value : goal.returns-then-pattern-k-clause-value
returns-then-pattern-k-clause-value c = omega (arith, c.loop-k.invariant, pairs-end c.args.pattern.now c.args.text.now c.loop-k.k (omega arith) (omega arith) c.if-pattern-k.true)

pub loop-k-preserved : goal.loop-k-preserved
loop-k-preserved c = omega (arith, c.loop-k.invariant, pairs-next c.args.pattern.now c.args.text.now c.loop-k.k (omega arith) (omega arith) c.if-pattern-k.false)

pub returns-clause-value : goal.returns-clause-value
returns-clause-value c = omega (arith, c.loop-k.invariant, pairs-over c.args.pattern.now c.args.text.now c.loop-k.k (omega arith))
