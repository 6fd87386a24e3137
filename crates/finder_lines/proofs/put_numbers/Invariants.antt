-- `put_numbers`: the fields of the numbers gone through are laid.
use Rattle.finder_lines.proofs.Fields.{FieldsLaid}
use Rattle.finder_lines.proofs.put_numbers.Given as goal

abbrev pub invariant-loop-number : goal.invariant-loop-number
invariant-loop-number l = FieldsLaid l.initial.buffer l.at l.list l.buffer l.next l.number-index
