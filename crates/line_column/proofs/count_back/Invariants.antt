-- `line_column::count_back`: no line ends with the bytes behind the first `start`, and `next` is the byte that follows those.
use Rattle.std.proofs.Common.{◌≡◌, get_or}
use Rattle.line_column.specs.LineColumn.{line_start}
use Rattle.line_column.proofs.count_back.Given as goal

abbrev pub invariant-loop-start : goal.invariant-loop-start
invariant-loop-start l = (line_start l.text l.end ≡ line_start l.text l.start) × (l.next ≡ get_or l.text l.start 0)
