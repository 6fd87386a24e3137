-- No field stands there, or each is read or left out in turn, or one is refused. Assumes nothing.
use Rattle.std.proofs.Common.{◌≡◌, sym, ap, ◌∙◌, [], ◌∷◌, rules}
use Rattle.std.specs.Prelude.{Err}
use Rattle.cue_fields.specs.declared.Due.TheVariants.{House}
use Rattle.cue_fields.proofs.Steps.{due-at, step-refusal}
use Rattle.cues.specs.Cue.{days_from, mark_from}
use Rattle.cues.proofs.Tail.{rest-is, rest-none, field-refused}
use Rattle.cues.proofs.read_rest.Goals as goal

pub returns-then-not-more_at : goal.returns-then-not-more_at
returns-then-not-more_at c = rest-none c.args.book.now c.args.place (sym c.if-not-more_at.ensures)

pub returns-in_err-dates : goal.returns-in_err-dates
returns-in_err-dates c =
    let is : c.from_residual.result ≡ Err c.in_err-dates.field-0.0 = search rules in
    rw is (field-refused (House ∷ []) c.in_err-dates.ensures)

pub returns-in_err-house : goal.returns-in_err-house
returns-in_err-house c =
    let is : c.from_residual-in_err-house.result ≡ Err c.in_err-house.field-0.0 = search rules in
    rw is (field-refused [] c.in_err-house.ensures ∙ sym (step-refusal (due-at c.in_ok-dates.ensures) (House ∷ [])))

pub bytes_in-requires : goal.bytes_in-requires
bytes_in-requires c = let d = due-at c.in_ok-dates.ensures in record { ordered = d.ordered; inside = d.no-further c.requires }

pub bytes_in-requires-2 : goal.bytes_in-requires-2
bytes_in-requires-2 c =
    let d = due-at c.in_ok-dates.ensures in
    let h = due-at c.in_ok-house.ensures in
    record { ordered = h.ordered; inside = h.no-further (d.no-further c.requires) }

pub returns : goal.returns
returns c =
    rest-is (due-at c.in_ok-dates.ensures) (due-at c.in_ok-house.ensures)
    (c.days_in.ensures ∙ ap days_from c.bytes_in.ensures) (c.mark_in.ensures ∙ ap mark_from c.bytes_in-2.ensures)
