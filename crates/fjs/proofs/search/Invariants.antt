-- `fjs::search`: the loop's invariant is the run's progress (`matching`), with the window at s and q letters carried, and what was told of the moves so far.
use Rattle.std.proofs.Common.{◌+◌, ◌-◌, length}
use Rattle.fjs.proofs.Steps.{Going}
use Rattle.fjs.proofs.search.Given as goal

abbrev pub invariant-loop-s : goal.invariant-loop-s
invariant-loop-s g l = Going g.N.Note.after g.N.Note.noted l.pattern l.text l.initial.list l.initial.notes l.s l.q l.total l.compared l.list l.notes

abbrev pub decreases-loop-s : goal.decreases-loop-s
decreases-loop-s g l = length l.text + 1 - l.s
