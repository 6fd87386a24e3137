-- What is left at the place is refused, or has a body of that length. Assumes nothing.
use Rattle.std.proofs.Common.{◌≡◌, rules, arith}
use Rattle.std.specs.Prelude.{Err}
use Rattle.matching.proofs.Parts.{from_is}
use Rattle.cue_fields.proofs.Fields.{rest-refused, rest-body, rest-inside, past-refused}
use Rattle.cue_fields.proofs.read_field.Goals as goal

pub returns-then-book-place : goal.returns-then-book-place
returns-then-book-place c = past-refused c.args.book.now c.args.place c.args.due c.if-book-place.true

pub returns-in_err-length : goal.returns-in_err-length
returns-in_err-length c =
    let is : c.from_residual.result ≡ Err c.in_err-length.field-0.0 = search rules in
    rw is (rest-refused c.args.book.now c.args.place c.args.due (from_is c.args.book.now c.args.place) c.in_err-length.ensures.refusal)

pub returns : goal.returns
returns c = rest-body c.args.book.now c.args.place c.args.due (from_is c.args.book.now c.args.place) c.in_ok-length.ensures.refusal c.in_ok-length.ensures.length

pub overflow_add-result : goal.overflow_add-result
overflow_add-result c = omega (arith, rest-inside c.args.book.now c.args.place c.args.due (from_is c.args.book.now c.args.place) c.in_ok-length.ensures.refusal c.in_ok-length.ensures.length)
