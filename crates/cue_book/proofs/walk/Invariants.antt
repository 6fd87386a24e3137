-- The loop's invariant: the cues read so far, and what the rest reads as, are the whole book, and those of them that are chosen are counted (`Counted`); the wanted cue's title is noted once it has been passed (`Noted`).
use Rattle.std.proofs.Common.{length, ◌-◌}
use Rattle.cue_book.proofs.Books.{Counted, Noted}
use Rattle.cue_book.proofs.walk.Given as goal

abbrev pub invariant-loop-place : goal.invariant-loop-place
invariant-loop-place l = record { counted : Counted l.book l.choice l.index l.place l.chosen; noted : Noted l.book l.wanted l.index l.title }

abbrev pub decreases-loop-place : goal.decreases-loop-place
decreases-loop-place l = length l.book - l.place
