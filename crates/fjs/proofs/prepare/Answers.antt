-- `fjs::prepare`: a call that met no refusal keeps the limits. Assumes nothing.
use Rattle.matching.proofs.Progress.{Accepted, accepted-ok}
use Rattle.fjs_steps.specs.Fjs.{fjs}
use Rattle.fjs.proofs.prepare.Goals as goal

pub make_tables-requires-clause-short : goal.make_tables-requires-clause-short
make_tables-requires-clause-short c =
    let ok : Accepted fjs c.args.pattern.now c.args.text.now c.args.scratch.now = accepted-ok c.in_ok-refused.ensures in
    ok.limits.short

pub make_tables-requires-clause-room : goal.make_tables-requires-clause-room
make_tables-requires-clause-room c =
    let ok : Accepted fjs c.args.pattern.now c.args.text.now c.args.scratch.now = accepted-ok c.in_ok-refused.ensures in
    ok.limits.room
