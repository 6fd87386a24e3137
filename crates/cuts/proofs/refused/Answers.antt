-- `cuts::refused`: a phrase that a find takes is short enough for `accepted`.
use Rattle.std.proofs.Common.{length, sym}
use Rattle.matching.proofs.Find.{within}
use Rattle.cuts.proofs.refused.Goals as goal

pub accepted-requires : goal.accepted-requires
accepted-requires c = (within (length c.args.phrase.now) (length c.args.text.now) 0 0 (sym c.in_ok-refused.ensures)).short
