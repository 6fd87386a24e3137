-- `automaton::mark`: a bit that is not set is added.
use Rattle.std.proofs.Common.{◌%◌, arith}
use Rattle.tries.specs.Links.{marked}
use Rattle.tries.proofs.Marks.{shl_one, mark-fits}
use Rattle.automaton.proofs.mark.Goals as goal

pub overflow_add-t-3 : goal.overflow_add-t-3
overflow_add-t-3 c =
    let a = c.args in
    let p = c.requires in
    omega (arith, shl_one (a.i % 16) (omega arith), mark-fits a.t.now a.s a.i p.1.0 p.1.1)

pub returns : goal.returns
unfolding marked
returns c = rw (shl_one (c.args.i % 16) (omega arith))
