-- The lines of one row more are laid, and those of all rows at the end. Assumes nothing.
use Rattle.std.proofs.Common.{arith}
use Rattle.finder_answer.proofs.Rows.{row_count, rows_none, rows_more, rows_all}
use Rattle.finder_answer.proofs.put_rows.Goals as goal

pub loop-row-init : goal.loop-row-init
loop-row-init c = rows_none c.args.phrase.now c.args.text.now c.args.output.now

pub put_row-at-requires-clause-row_in_bounds : goal.put_row-at-requires-clause-row_in_bounds
put_row-at-requires-clause-row_in_bounds c = omega (arith, row_count)

pub loop-row-preserved : goal.loop-row-preserved
loop-row-preserved c = rows_more c.args.phrase.now c.args.text.now c.args.output.now c.loop-row.row (omega (arith, row_count)) c.loop-row.invariant c.put_row-at.ensures

pub returns : goal.returns
returns c = rows_all c.args.phrase.now c.args.text.now c.args.output.now c.loop-row.row (omega (arith, row_count)) c.loop-row.invariant
