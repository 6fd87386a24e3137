-- `naive::find`: the loop's invariant is the run's progress (`matching`), with the window at s.
use Rattle.matching.specs.Machine.{at}
use Rattle.matching.proofs.Progress.{Looping}
use Rattle.naive.specs.Naive.{naive}
use Rattle.naive.proofs.find.Given as goal

abbrev pub invariant-loop-s : goal.invariant-loop-s
invariant-loop-s l = Looping naive l.pattern l.text l.initial.list (at l.s 0) l.total l.compared l.list
