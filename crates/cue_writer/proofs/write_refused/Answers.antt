-- Days that are refused are the cue's refusal. Assumes nothing.
use Rattle.std.proofs.Common.{◌≡◌, rules}
use Rattle.std.specs.Prelude.{Err}
use Rattle.cue_writer.proofs.Writing.{days-refused}
use Rattle.cue_writer.proofs.write_refused.Goals as goal

pub returns-in_err-dates_refused : goal.returns-in_err-dates_refused
returns-in_err-dates_refused c =
    let is : c.from_residual.result ≡ Err c.in_err-dates_refused.field-0.0 = search rules in
    rw is (days-refused _ c.args.house c.args.capacity c.in_err-dates_refused.field-0.0 c.in_err-dates_refused.ensures)
