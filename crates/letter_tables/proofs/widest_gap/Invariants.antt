-- `letter_tables::widest_gap`: `before` has the last position of each letter among the first q, and the widest gap so far is that of the first q letters.
use Rattle.std.proofs.Common.{◌≡◌}
use Rattle.tables.proofs.Tables.{Ruled}
use Rattle.letter_tables.specs.BadCharacter.{last_in}
use Rattle.letter_tables.specs.Gaps.{widest, widest_at}
use Rattle.letter_tables.proofs.widest_gap.Given as goal

abbrev pub invariant-loop-q : goal.invariant-loop-q
invariant-loop-q l = record {
  last : Ruled 256 (last_in l.pattern l.q) l.initial.before l.before;
  widest : l.widest ≡ record { width = widest l.pattern l.q; letter = widest_at l.pattern l.q };
}
