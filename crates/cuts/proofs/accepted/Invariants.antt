-- `cuts::accepted`: whether the whole list is accepted is whether the rest of it is, from `low` on.
use Rattle.std.proofs.Common.{◌≡◌, drop}
use Rattle.cuts.proofs.Lists.{accepted_from}
use Rattle.cuts.proofs.accepted.Given as goal

abbrev pub invariant-loop-place : goal.invariant-loop-place
invariant-loop-place l = accepted_from l.m l.n 0 l.list ≡ accepted_from l.m l.n l.low (drop l.place-index l.list)
