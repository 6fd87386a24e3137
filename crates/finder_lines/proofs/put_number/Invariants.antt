-- `put_number`: the digits of what is left and those already found are the number's, and the array holds spaces before them.
use Rattle.finder_lines.proofs.Decimal.{Found}
use Rattle.finder_lines.proofs.put_number.Given as goal

abbrev pub invariant-loop-rest : goal.invariant-loop-rest
invariant-loop-rest l = Found l.value l.digits l.first l.rest

abbrev pub decreases-loop-rest : goal.decreases-loop-rest
decreases-loop-rest l = l.rest
