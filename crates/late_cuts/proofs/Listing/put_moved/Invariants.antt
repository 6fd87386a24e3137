-- `put_moved`: the places of the rest of the list that move are left to be put.
use Rattle.late_cuts.proofs.Lists.{Putting, moved}
use Rattle.late_cuts.proofs.Listing.put_moved.Given as goal

abbrev pub invariant-loop-place : goal.invariant-loop-place
invariant-loop-place l = Putting (moved l.gained l.lost l.end) l.initial.self l.list l.self l.place-index
