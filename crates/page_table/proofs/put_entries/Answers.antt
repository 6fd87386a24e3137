-- One entry more is laid. Assumes nothing.
use Rattle.std.proofs.Common.{sym}
use Rattle.page_table.proofs.Laying.{none_laid, one_more}
use Rattle.page_table.proofs.put_entries.Goals as goal

pub loop-letter-init : goal.loop-letter-init
loop-letter-init c = none_laid c.args.output.now

pub loop-letter-preserved : goal.loop-letter-preserved
loop-letter-preserved c = one_more c.args.output.now c.loop-letter.letter c.loop-letter.invariant (rw (sym c.entry.ensures) c.put_digits-at.ensures) c.put_after-at.ensures
