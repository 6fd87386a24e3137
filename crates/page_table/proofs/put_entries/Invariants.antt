-- `page_table::put_entries`: the entries of the letters before this one are laid.
use Rattle.pieces.specs.Pieces.{Laid, put_all}
use Rattle.page_table.specs.Entries.{entries}
use Rattle.page_table.proofs.put_entries.Given as goal

abbrev pub invariant-loop-letter : goal.invariant-loop-letter
invariant-loop-letter l = Laid l.output l.at (put_all l.initial.output 0 (entries l.letter))
