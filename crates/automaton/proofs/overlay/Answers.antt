-- `automaton::overlay`: a child is laid at its letter's class, and the one before it is next.
use Rattle.std.proofs.Common.{rules, arith}
use Rattle.tries.proofs.Overlays.{laying-done, laying-falls, laying-turn, turn-room, turn-sibling}
use Rattle.automaton.proofs.overlay.Goals as goal

pub bounds-t-w : goal.bounds-t-w
bounds-t-w c = turn-room c.requires.1 (c.loop-x.invariant.1 c.requires.0 c.requires.1) c.loop-x-test.true

pub loop-x-smaller : goal.loop-x-smaller
loop-x-smaller c = let m = c.loop-x.invariant.1 c.requires.0 c.requires.1 in omega (arith, turn-sibling c.requires.1 m c.loop-x-test.true, laying-falls c.requires.1 m c.loop-x-test.true)

pub loop-x-preserved : goal.loop-x-preserved
loop-x-preserved c = (search rules, λ names r. laying-turn r (c.loop-x.invariant.1 names r) c.loop-x-test.true)

pub returns : goal.returns
returns c = λ names r. laying-done r (c.loop-x.invariant.1 names r) c.loop-x-test.false
