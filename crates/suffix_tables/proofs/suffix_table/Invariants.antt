-- `suffix_tables::suffix_table`: the entries of s to m are made, and the inner loop goes up the chain of places whose suffixes stand again at s + 1.
use Rattle.std.proofs.Common.{◌+◌, ◌-◌, length}
use Rattle.suffix_tables.proofs.Suffixes.{Chain, Made}
use Rattle.suffix_tables.proofs.suffix_table.Given as goal

abbrev pub invariant-loop-s : goal.invariant-loop-s
invariant-loop-s l = Made l.pattern l.s l.t l.fn.table l.table

abbrev pub invariant-loop-t : goal.invariant-loop-t
invariant-loop-t l = Chain l.pattern l.s l.t

abbrev pub decreases-loop-t : goal.decreases-loop-t
decreases-loop-t l = length l.pattern + 1 - l.t
