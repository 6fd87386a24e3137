-- `find_part`: the answer is lent from the first `total` entries on, or from its end where it has fewer.
use Rattle.std.proofs.Common.{ap, length, refl, ◌+◌, ℕ}
use Rattle.late_cuts.proofs.Fresh.{not_refused, part_small, part_moved, part_total, lent-from}
use Rattle.late_cuts.proofs.Listing.find_part.Goals as goal

pub add_to_each-requires-clause-small : goal.add_to_each-requires-clause-small
add_to_each-requires-clause-small c = part_small c.in-Ok.ensures (not_refused _ _ c.requires.phrase_some c.requires.phrase_bound c.requires.part_bound)

pub returns : goal.returns
returns c =
    let a = c.args in
    let none = not_refused (length a.phrase.now) (length a.part.now) c.requires.phrase_some c.requires.phrase_bound c.requires.part_bound in
    record {
      same = refl;
      list = lent-from a.self.now.total _ a.self.now.list.now _ c.min-from.ensures (part_moved c.in-Ok.ensures none a.place c.add_to_each.ensures);
      total = ap (λ (n : ℕ). a.self.now.total + n) (part_total c.in-Ok.ensures none a.place);
    }
