-- Each arm puts the line of its row. Assumes nothing.
use Rattle.std.proofs.Common.{◌≡◌, arith}
use Rattle.finder_answer.specs.Answered.{rows}
use Rattle.finder_answer.proofs.Rows.{row_count}
use Rattle.finder_answer.proofs.put_row.Goals as goal

pub returns-in-0 : goal.returns-in-0
unfolding rows
returns-in-0 c = rw c.in-0.is c.put_engine.ensures

pub returns-in-1 : goal.returns-in-1
unfolding rows
returns-in-1 c = rw c.in-1.is c.put_engine-in-1.ensures

pub returns-in-2 : goal.returns-in-2
unfolding rows
returns-in-2 c = rw c.in-2.is c.put_engine-in-2.ensures

pub returns-in-3 : goal.returns-in-3
unfolding rows
returns-in-3 c = rw c.in-3.is c.put_engine-in-3.ensures

pub returns-in-4 : goal.returns-in-4
unfolding rows
returns-in-4 c = rw c.in-4.is c.put_engine-in-4.ensures

pub returns-in-5 : goal.returns-in-5
unfolding rows
returns-in-5 c = rw c.in-5.is c.put_engine-in-5.ensures

pub returns-in-6 : goal.returns-in-6
unfolding rows
returns-in-6 c = rw c.in-6.is c.put_engine-in-6.ensures

pub returns-in_default : goal.returns-in_default
unfolding rows
returns-in_default c =
    let last : c.args.row ≡ 7 = omega (arith, row_count) in
    rw last c.put_engine-in_default.ensures
