-- `letter_tables::fill`: all 256 entries are the base less the last position of each letter among the first q.
use Rattle.std.proofs.Common.{◌-◌}
use Rattle.tables.proofs.Tables.{Ruled}
use Rattle.letter_tables.specs.BadCharacter.{last_in}
use Rattle.letter_tables.proofs.fill.Given as goal

abbrev pub invariant-loop-q : goal.invariant-loop-q
invariant-loop-q l = Ruled 256 (λ c. l.base - last_in l.pattern l.q c) l.fn.table l.table
