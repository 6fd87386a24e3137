-- `boyer_moore::find`: the loop's invariant is the run's progress (`matching`), with the window at s.
use Rattle.std.proofs.Common.{◌+◌, ◌-◌, length}
use Rattle.boyer_moore.proofs.Steps.{Going}
use Rattle.boyer_moore.proofs.find.Given as goal

abbrev pub invariant-loop-s : goal.invariant-loop-s
invariant-loop-s l = Going l.pattern l.text l.initial.list l.s l.total l.compared l.list

abbrev pub decreases-loop-s : goal.decreases-loop-s
decreases-loop-s l = length l.text + 1 - l.s
