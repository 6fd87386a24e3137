-- `improved_fjs::reach` stops at the first unequal pair, or past the pattern's last letter. Assumes nothing.
use Rattle.std.proofs.Common.{arith, sym, ◌∙◌}
use Rattle.matching.proofs.Letters.{reach-equal, reach-unequal, reach-done}
use Rattle.improved_fjs.proofs.reach.Goals as goal

pub returns-then-pattern-k-clause-value : goal.returns-then-pattern-k-clause-value
returns-then-pattern-k-clause-value c =
    let a = c.args in
    sym (reach-unequal a.pattern.now a.text.now a.s c.loop-k.k (omega arith) (omega arith) c.if-pattern-k.true) ∙ c.loop-k.invariant

pub loop-k-preserved : goal.loop-k-preserved
loop-k-preserved c =
    let a = c.args in
    sym (reach-equal a.pattern.now a.text.now a.s c.loop-k.k (omega arith) (omega arith) c.if-pattern-k.false) ∙ c.loop-k.invariant

pub returns-clause-value : goal.returns-clause-value
returns-clause-value c = let a = c.args in omega (arith, reach-done a.pattern.now a.text.now a.s c.loop-k.k (omega arith), c.loop-k.invariant)
