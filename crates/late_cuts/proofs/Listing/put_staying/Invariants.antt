-- `put_staying`: the places of the rest of the list that stay are left to be put.
use Rattle.std.proofs.Common.{◌≡◌, true, drop}
use Rattle.matching.specs.Joined.{those}
use Rattle.cuts.specs.Cuts.{rises}
use Rattle.late_cuts.specs.LateCuts.{stays}
use Rattle.late_cuts.proofs.Lists.{Putting}
use Rattle.late_cuts.proofs.Listing.put_staying.Given as goal

abbrev pub invariant-loop-place : goal.invariant-loop-place
invariant-loop-place l = record { putting : Putting (those (stays l.m l.start)) l.initial.self l.list l.self l.place-index; rising : rises (drop l.place-index l.list) ≡ true }
