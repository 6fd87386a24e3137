-- `border_tables::kmp_table`: b[1] to b[q + 1] are made, and j is in the chain of borders of the first q letters, at its longest where q is above 0. The inner loop goes down the
-- chain, and passes over no border with letter q + 1 after it.
use Rattle.std.proofs.Common.{◌+◌}
use Rattle.tables.proofs.Tables.{Ruled}
use Rattle.border_tables.specs.Kmp.{kmp_entry}
use Rattle.border_tables.proofs.Kmp.{Chain}
use Rattle.border_tables.proofs.kmp_table.Given as goal

abbrev pub invariant-loop-q : goal.invariant-loop-q
invariant-loop-q l = record { ruled : Ruled (l.q + 1) (kmp_entry l.pattern) l.fn.table l.table; chain : Chain l.pattern l.q l.j }

abbrev pub invariant-loop-j : goal.invariant-loop-j
invariant-loop-j l = Chain l.pattern l.q l.j

abbrev pub decreases-loop-j : goal.decreases-loop-j
decreases-loop-j l = l.j
