use Rattle.std.proofs.Common.{refl, ◌∙◌}
use Rattle.late_cuts.proofs.Lists.{received_at}
use Rattle.late_cuts.proofs.Listing.put.Goals as goal

pub returns : goal.returns
returns c = record { same = refl; list = c.store.ensures ∙ received_at c.args.self.now.total c.args.self.now.list.now c.args.place; total = refl }
