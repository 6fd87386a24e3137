-- `fold::each_folded`: a letter more is what the closure gives for it, and after the last the target holds all that it can (`Filling`).
use Rattle.std.proofs.Common.{◌<◌, get_or, arith, sym, ◌∙◌}
use Rattle.matching.proofs.Received.{received_none}
use Rattle.fold.proofs.Filling.{letter-filled, all-filled}
use Rattle.fold.proofs.each_folded.Goals as goal

pub loop-i-init : goal.loop-i-init
loop-i-init g c = λ f law. sym (received_none c.args.target.now)

pub loop-i-preserved : goal.loop-i-preserved
loop-i-preserved g c =
    let byte : get_or c.args.source.now c.loop-i.i 0 < 256 = omega (arith, c.type_inv.source c.loop-i.i) in
    λ f law. letter-filled f c.args.source.now c.args.target.now c.loop-i.i (omega arith) (c.loop-i.invariant f law) (law (get_or c.args.source.now c.loop-i.i 0) c.fold.result byte c.fold.ensures)

pub returns-clause-left : goal.returns-clause-left
returns-clause-left g c = λ f law. c.loop-i.invariant f law ∙ all-filled f c.args.source.now c.args.target.now c.loop-i.i (omega arith)
