-- `suffix_tables::prefix_entries`: before place q the entries are settled, and k is the next place from q on whose letters stand at the pattern's front.
use Rattle.suffix_tables.specs.Passes.{Settled}
use Rattle.suffix_tables.proofs.Passes.{Front}
use Rattle.suffix_tables.proofs.prefix_entries.Given as goal

abbrev pub invariant-loop-q : goal.invariant-loop-q
invariant-loop-q l = record { front : Front l.pattern l.q l.k; settled : Settled l.pattern l.q 0 l.fn.table l.table }
