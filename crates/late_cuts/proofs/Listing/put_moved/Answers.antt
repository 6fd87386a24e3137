-- `put_moved`: one place of the list after another, moved or passed over.
use mir.Syntax.{w32}
use mir.Val.{SFits}
use mir.ValLaws.{to_z-of_z}
use Rattle.std.proofs.Common.{get_or, arith}
use Rattle.late_cuts.proofs.Signed.{difference-small, moves_so}
use Rattle.late_cuts.proofs.Lists.{move_on, move_over}
use Rattle.late_cuts.proofs.Listing.put_moved.Goals as goal

pub moved-requires : goal.moved-requires
moved-requires c =
    let gained = c.args.gained in
    let lost = c.args.lost in
    let fits : SFits w32 c.difference-by.result =
    rw c.difference-by.ensures (record { sfits = omega (arith, difference-small gained lost 32768 c.requires.gained_bound c.requires.lost_small) }) in
    rw (to_z-of_z w32 c.difference-by.result fits)
    (moves_so gained lost (get_or c.args.list.now c.loop-place.place-index 0) c.difference-by.ensures (omega arith) (c.requires.small.small c.loop-place.place-index (omega arith)) c.requires.gained_bound)

pub loop-place-preserved : goal.loop-place-preserved
loop-place-preserved c = move_on c.args.gained c.args.lost c.args.end c.loop-place.invariant (omega arith) c.difference-by.ensures (λ h. grind (arith, h)) (λ h. grind (arith, h))

pub returns : goal.returns
returns c = move_over c.args.gained c.args.lost c.args.end c.loop-place.invariant (omega arith)
