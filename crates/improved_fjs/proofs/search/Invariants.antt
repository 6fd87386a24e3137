-- `improved_fjs::search`: the loop's invariant is the run's progress (`matching`), with the window at s and q letters carried.
use Rattle.std.proofs.Common.{◌+◌, ◌-◌, length}
use Rattle.improved_fjs.proofs.Steps.{Going}
use Rattle.improved_fjs.proofs.search.Given as goal

abbrev pub invariant-loop-s : goal.invariant-loop-s
invariant-loop-s l = Going l.pattern l.text l.initial.list l.s l.q l.total l.compared l.list

abbrev pub decreases-loop-s : goal.decreases-loop-s
decreases-loop-s l = length l.text + 1 - l.s
