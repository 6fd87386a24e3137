-- `automaton::extend`: the child that there is, or the next state.
use Rattle.std.proofs.Common.{arith}
use Rattle.tries.proofs.Growth.{extended-old, extended-next}
use Rattle.tries.proofs.Steps.{child-is}
use Rattle.automaton.proofs.extend.Goals as goal

pub returns-then-x-gt0 : goal.returns-then-x-gt0
returns-then-x-gt0 c = λ names plain n. extended-old plain (rw c.child-x.ensures (child-is plain.trie _ _ (omega (arith, c.requires.inside)))) c.if-x-gt0.true

pub returns : goal.returns
returns c = λ names plain n.
    let p = c.requires in
    extended-next plain n p.inside (rw c.child-x.ensures (child-is plain.trie _ _ (omega (arith, p.inside)))) c.if-x-gt0.false (p.room (omega arith)).0 c.add.ensures
