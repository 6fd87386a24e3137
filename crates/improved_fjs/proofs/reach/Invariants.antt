-- `improved_fjs::reach`: from letter k + 1 on the window reaches as far as from the first that is not carried.
use Rattle.std.proofs.Common.{◌≡◌}
use Rattle.matching.specs.Letters.{reach}
use Rattle.improved_fjs.proofs.reach.Given as goal

abbrev pub invariant-loop-k : goal.invariant-loop-k
invariant-loop-k l = reach l.pattern l.text l.s l.k ≡ reach l.pattern l.text l.s l.q
