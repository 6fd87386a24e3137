-- `matching::compare_down`: the last `equal` letters up to `count` are equal, so those equal from `count` down are these and those from there down.
use Rattle.std.proofs.Common.{◌≡◌, ◌+◌, ◌-◌}
use Rattle.matching.specs.Letters.{equal_down}
use Rattle.matching.proofs.compare_down.Given as goal

abbrev pub invariant-loop-equal : goal.invariant-loop-equal
invariant-loop-equal l = l.equal + equal_down l.pattern l.text l.start (l.count - l.equal) ≡ equal_down l.pattern l.text l.start l.count
