-- `matching::compare_down` stops at the first unequal pair, by one step of the definition, or has none left.
use Rattle.std.proofs.Common.{◌≡◌, ◌+◌, ◌-◌, arith, sym, ap}
use Rattle.matching.specs.Letters.{equal_down}
use Rattle.matching.proofs.Letters.{down-equal, down-unequal, down-none, compared_down-is, compared_down-long, compared_down-past}
use Rattle.matching.proofs.compare_down.Goals as goal

pub returns-then-pattern-count-clause-value : goal.returns-then-pattern-count-clause-value
returns-then-pattern-count-clause-value c = let a = c.args in sym (compared_down-long a.pattern.now a.text.now a.start a.count (omega arith))

pub returns-then-text-count-clause-value : goal.returns-then-text-count-clause-value
returns-then-text-count-clause-value c = let a = c.args in sym (compared_down-past a.pattern.now a.text.now a.start a.count (omega arith) (omega arith))

pub returns-then-text-count-2-clause-value : goal.returns-then-text-count-2-clause-value
returns-then-text-count-2-clause-value c = let a = c.args in sym (compared_down-past a.pattern.now a.text.now a.start a.count (omega arith) (omega arith))

pub returns-then-pattern-k-clause-value : goal.returns-then-pattern-k-clause-value
returns-then-pattern-k-clause-value c =
    let a = c.args in
    omega (
      arith,
      compared_down-is a.pattern.now a.text.now a.start a.count (omega arith) (omega arith),
      down-unequal a.pattern.now a.text.now a.start (a.count - c.loop-equal.equal) (omega arith) c.if-pattern-k.true,
      c.loop-equal.invariant,
    )

pub loop-equal-preserved : goal.loop-equal-preserved
loop-equal-preserved c =
    let a = c.args in
    let next : a.count - c.loop-equal.equal - 1 ≡ a.count - (c.loop-equal.equal + 1) = omega arith in
    omega
    (arith, c.loop-equal.invariant, down-equal a.pattern.now a.text.now a.start (a.count - c.loop-equal.equal) (omega arith) c.if-pattern-k.false, ap (equal_down a.pattern.now a.text.now a.start) next)

pub returns-clause-value : goal.returns-clause-value
returns-clause-value c =
    let a = c.args in
    let none : a.count - c.loop-equal.equal ≡ 0 = omega arith in
    omega
    (arith, c.loop-equal.invariant, compared_down-is a.pattern.now a.text.now a.start a.count (omega arith) (omega arith), ap (equal_down a.pattern.now a.text.now a.start) none, down-none a.pattern.now a.text.now a.start)
