-- No piece where the cue is open. Assumes nothing.
use Rattle.std.proofs.Common.{arith}
use borrow.Author.Tests.{eq-eqb}
use Rattle.pieces.proofs.Laid.{laid_none}
use Rattle.cue_writer.specs.Writing.{mark_given}
use Rattle.cue_writer.proofs.put_mark.Goals as goal

pub returns-then-house-eq0 : goal.returns-then-house-eq0
unfolding mark_given
returns-then-house-eq0 c = rw (eq-eqb c.args.house 0 (omega arith)) (laid_none _ _)
