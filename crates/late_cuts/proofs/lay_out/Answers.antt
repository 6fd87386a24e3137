-- `lay_out`: the room holds the three pieces at its front.
use Rattle.late_cuts.proofs.Fresh.{laid-three}
use Rattle.late_cuts.proofs.lay_out.Goals as goal

pub slice_bounds-result-end : goal.slice_bounds-result-end
slice_bounds-result-end c = (laid-three c.args.room.now c.args.before.now c.args.letters.now c.args.after.now c.requires c.put_bytes-one.ensures c.put_bytes-two.ensures c.put_bytes-three.ensures).inside

pub returns : goal.returns
returns c = (laid-three c.args.room.now c.args.before.now c.args.letters.now c.args.after.now c.requires c.put_bytes-one.ensures c.put_bytes-two.ensures c.put_bytes-three.ensures).all
