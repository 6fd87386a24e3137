-- `matching::compare_up`: the first k letters are equal, so those equal in all are these and those from there on.
use Rattle.std.proofs.Common.{◌≡◌, ◌+◌, drop}
use Rattle.matching.specs.Letters.{equal_pairs}
use Rattle.matching.proofs.compare_up.Given as goal

abbrev pub invariant-loop-k : goal.invariant-loop-k
invariant-loop-k l = l.k + equal_pairs (drop l.k l.pattern) (drop l.k l.text) ≡ equal_pairs l.pattern l.text
