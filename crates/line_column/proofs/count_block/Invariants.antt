-- `line_column::count_block`: the line ends from `start` up to i are counted, and a byte holds their number.
use Rattle.std.proofs.Common.{◌≡◌, ◌+◌, ◌≤◌}
use Rattle.line_column.specs.LineColumn.{ends_before}
use Rattle.line_column.proofs.count_block.Given as goal

abbrev pub invariant-loop-i : goal.invariant-loop-i
invariant-loop-i l = (ends_before l.text l.i ≡ ends_before l.text l.start + l.count) × (l.start + l.count ≤ l.i)
