-- `finder_answer::put_rows`: the lines of the rows before this one are laid.
use Rattle.std.proofs.Common.{take}
use Rattle.pieces.specs.Pieces.{Laid, put_all}
use Rattle.finder_answer.specs.Answered.{rows, engine_lines}
use Rattle.finder_answer.proofs.put_rows.Given as goal

abbrev pub invariant-loop-row : goal.invariant-loop-row
invariant-loop-row l = Laid l.output l.at (put_all l.initial.output 0 (engine_lines (take l.row rows) l.phrase l.text))
