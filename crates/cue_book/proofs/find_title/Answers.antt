-- A refused book's fault is the walk's, and it shows no title. Assumes nothing.
use Rattle.std.proofs.Common.{◌≡◌, sym, rules}
use Rattle.std.specs.Prelude.{Err}
use Rattle.cue_book.proofs.Books.{part-refused}
use Rattle.cue_book.proofs.find_title.Goals as goal

pub returns-in_err-found : goal.returns-in_err-found
returns-in_err-found c =
    let is : c.from_residual.result ≡ Err c.in_err-found.field-0.0 = search rules in
    rw is (record { answer = rw c.in_err-found.ensures; part = sym (part-refused c.args.book.now c.args.cue c.in_err-found.ensures) })
