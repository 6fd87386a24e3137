-- `resolver::next_cue`: no cue so far is chosen, so that those left that are, with their numbers, are the same.
use Rattle.std.proofs.Common.{length, ◌-◌}
use Rattle.resolver.proofs.Gathering.{Skips}
use Rattle.resolver.proofs.next_cue.Given as goal

abbrev pub invariant-loop-at : goal.invariant-loop-at
invariant-loop-at l = Skips l.choice l.book l.fn.cursor.number l.fn.cursor.place l.index l.at

abbrev pub decreases-loop-at : goal.decreases-loop-at
decreases-loop-at l = length l.book - l.at
