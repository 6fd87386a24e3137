-- The refusal's line, or those of all engines. Assumes nothing.
use Rattle.std.proofs.Common.{arith, sym, ◌∙◌}
use Rattle.matching.proofs.Find.{number-some}
use Rattle.finder_answer.proofs.Rows.{answered-refused, answered-lines}
use Rattle.finder_answer.proofs.put_answer.Goals as goal

pub returns-in-Ok : goal.returns-in-Ok
returns-in-Ok c = rw (answered-lines c.args.phrase.now c.args.text.now (sym c.in-Ok.ensures)) c.put_rows.ensures

pub returns-in-Err : goal.returns-in-Err
returns-in-Err c =
    rw (answered-refused c.args.phrase.now c.args.text.now (c.into.ensures ∙ c.in-Err.ensures) (λ z. omega (arith, number-some c.in-Err.refusal, c.into.ensures))) c.put_refused.ensures
