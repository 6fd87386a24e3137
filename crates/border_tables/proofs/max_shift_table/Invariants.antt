-- `border_tables::max_shift_table`: the KMP entries stand at the table's front, and the shifts of 1 to q after them.
use Rattle.std.proofs.Common.{◌+◌, length}
use Rattle.tables.proofs.Tables.{then, Ruled}
use Rattle.border_tables.specs.Kmp.{kmp_entry}
use Rattle.border_tables.specs.MaxShift.{max_shift}
use Rattle.border_tables.proofs.max_shift_table.Given as goal

abbrev pub invariant-loop-q : goal.invariant-loop-q
invariant-loop-q l = Ruled (length l.pattern + 1 + l.q) (then (length l.pattern + 1) (kmp_entry l.pattern) (max_shift l.pattern)) l.fn.table l.table
