-- `line_column::count_breaks`: the line ends from `start` up to i, or up to the last byte, are counted.
use Rattle.std.proofs.Common.{◌≡◌, ◌+◌, ◌≤◌, min}
use Rattle.line_column.specs.LineColumn.{ends_before}
use Rattle.line_column.proofs.count_breaks.Given as goal

abbrev pub invariant-loop-i : goal.invariant-loop-i
invariant-loop-i l = (ends_before l.text (min l.last l.i) ≡ ends_before l.text l.start + l.count) × (l.start + l.count ≤ min l.last l.i)
