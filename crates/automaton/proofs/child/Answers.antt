-- `automaton::child`: a child that is looked at is found, or passed over; behind the last one there is none.
use Rattle.automaton.proofs.Children.{looking_on, looking_found, looking_none}
use Rattle.automaton.proofs.child.Goals as goal

pub returns-then-t-x : goal.returns-then-t-x
returns-then-t-x c = looking_found c.loop-x.invariant c.loop-x-test.true c.if-t-x.true

pub loop-x-preserved : goal.loop-x-preserved
loop-x-preserved c = looking_on c.loop-x.invariant c.loop-x-test.true c.if-t-x.false

pub returns : goal.returns
returns c = looking_none c.loop-x.invariant c.loop-x-test.false
