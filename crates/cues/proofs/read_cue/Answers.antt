-- The fields stand one after another, or one is refused, which the cue's refusal then is. Assumes nothing.
use Rattle.std.proofs.Common.{◌≡◌, sym, ap, ◌∙◌, refl, ◌∷◌, rules}
use Rattle.std.specs.Prelude.{Err}
use Rattle.cue_fields.specs.declared.Due.TheVariants.{Ordinal, Title}
use Rattle.cue_fields.specs.Field.{number_in}
use Rattle.cue_fields.proofs.Steps.{due-stands, due-at}
use Rattle.cues.specs.Reading.{cue_refusal}
use Rattle.cues.specs.Rest.{tail_form}
use Rattle.cues.proofs.Tail.{field-refused}
use Rattle.cues.proofs.Cues.{cue-refused, after-phrase, after-ordinal, after-title, cue-read}
use Rattle.cues.proofs.read_cue.Goals as goal

pub returns-in_err-phrase : goal.returns-in_err-phrase
unfolding cue_refusal
returns-in_err-phrase c =
    let is : c.from_residual.result ≡ Err c.in_err-phrase.field-0.0 = search rules in
    rw is (cue-refused (field-refused (Ordinal ∷ Title ∷ tail_form) (due-stands refl c.in_err-phrase.ensures)))

pub returns-in_err-number : goal.returns-in_err-number
returns-in_err-number c =
    let is : c.from_residual-in_err-number.result ≡ Err c.in_err-number.field-0.0 = search rules in
    let p = due-at (due-stands refl c.in_ok-phrase.ensures) in
    rw is (cue-refused (field-refused (Title ∷ tail_form) (due-stands refl c.in_err-number.ensures) ∙ sym (after-phrase p)))

pub returns-in_err-title : goal.returns-in_err-title
returns-in_err-title c =
    let is : c.from_residual-in_err-title.result ≡ Err c.in_err-title.field-0.0 = search rules in
    let p = due-at (due-stands refl c.in_ok-phrase.ensures) in
    let o = due-at (due-stands refl c.in_ok-number.ensures) in
    rw is (cue-refused (field-refused tail_form (due-stands refl c.in_err-title.ensures) ∙ sym (after-ordinal p o)))

pub read_rest-requires : goal.read_rest-requires
read_rest-requires c = (due-at (due-stands refl c.in_ok-title.ensures)).inside refl

pub returns-in_err-rest : goal.returns-in_err-rest
returns-in_err-rest c =
    let is : c.from_residual-in_err-rest.result ≡ Err c.in_err-rest.field-0.0 = search rules in
    let p = due-at (due-stands refl c.in_ok-phrase.ensures) in
    let o = due-at (due-stands refl c.in_ok-number.ensures) in
    let t = due-at (due-stands refl c.in_ok-title.ensures) in
    rw is (cue-refused (c.in_err-rest.ensures ∙ sym (after-title p o t)))

pub bytes_in-requires : goal.bytes_in-requires
bytes_in-requires c = let o = due-at (due-stands refl c.in_ok-number.ensures) in record { ordered = o.ordered; inside = o.inside refl }

pub returns : goal.returns
returns c =
    let p = due-at (due-stands refl c.in_ok-phrase.ensures) in
    let o = due-at (due-stands refl c.in_ok-number.ensures) in
    let t = due-at (due-stands refl c.in_ok-title.ensures) in
    cue-read p o t c.in_ok-rest.ensures (c.number_at-ordinal.ensures.value ∙ ap number_in c.bytes_in.ensures)
