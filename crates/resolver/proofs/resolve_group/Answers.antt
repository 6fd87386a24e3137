-- `resolver::resolve_group`: what was found of the next group, and the entries put for it, are the group resolved.
use Rattle.std.proofs.Common.{rules, ◌≡◌, ◌+◌}
use Rattle.std.specs.Prelude.{Ok, Err}
use Rattle.resolver.proofs.Walking.{grouped-all, grouped-some}
use Rattle.resolver.proofs.resolve_group.Goals as goal

pub returns-in_err-spot : goal.returns-in_err-spot
returns-in_err-spot c =
    let is : c.from_residual.result ≡ Err c.in_err-spot.field-0.0 = search rules in
    let was : c.put_group.result ≡ Err c.in_err-spot.field-0.0.fault = search rules in
    let total : c.in_err-spot.field-0.0.reads ≡ c.args.walk.reads + c.find_group-group.result.reads = search rules in
    rw is (grouped-some c.args.walk c.find_group-group.ensures c.requires.copied (rw was at c.put_group.ensures) total)

pub returns : goal.returns
returns c =
    let was : c.put_group.result ≡ Ok c.in_ok-spot.spot = search rules in
    grouped-all c.args.walk c.find_group-group.ensures c.requires.copied (rw was at c.put_group.ensures)
