-- `suffix_tables::suffix_entries`: the entries whose letters stand again after no place from r on are settled; the inner loop goes up the chain of places whose letters stand again
-- after r, until letter r stands before them too.
use Rattle.std.proofs.Common.{◌+◌, ◌-◌, ◌≤◌, length}
use Rattle.suffix_tables.specs.Passes.{Settled}
use Rattle.suffix_tables.proofs.Passes.{Walk}
use Rattle.suffix_tables.proofs.suffix_entries.Given as goal

abbrev pub invariant-loop-r : goal.invariant-loop-r
invariant-loop-r l = Settled l.pattern (length l.pattern) l.r l.fn.table l.table

abbrev pub invariant-loop-t : goal.invariant-loop-t
invariant-loop-t l = record { inside : l.end ≤ length l.pattern; walk : Walk l.pattern l.r l.t l.fn.table l.table }

abbrev pub decreases-loop-t : goal.decreases-loop-t
decreases-loop-t l = l.end + 1 - l.t
