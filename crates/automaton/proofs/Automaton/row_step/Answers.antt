-- `Automaton::row_step`: the state that is looked at has a row, or a child, or else its fail link is next.
use Rattle.std.proofs.Common.{◌∙◌}
use Rattle.automaton.proofs.Stepping.{along_row, along_child, along_on}
use Rattle.automaton.proofs.Automaton.row_step.Goals as goal

pub returns-then-x-gt0 : goal.returns-then-x-gt0
returns-then-x-gt0 c = c.child-x.ensures ∙ along_child c.loop-at.invariant c.loop-at-test.true (rw c.child-x.ensures at c.if-x-gt0.true)

pub loop-at-preserved : goal.loop-at-preserved
loop-at-preserved c = along_on c.loop-at.invariant c.loop-at-test.true (rw c.child-x.ensures at c.if-x-gt0.false)

pub returns : goal.returns
returns c = along_row c.loop-at.invariant c.loop-at-test.false
