-- What the walk gives is a refused book's fault, or the number of its cues that are chosen. Assumes nothing.
use Rattle.std.proofs.Common.{◌≡◌, ℕ, sym, ap, ◌∙◌, rules}
use Rattle.std.specs.Prelude.{Err}
use Rattle.cue_book.proofs.Books.{chosen-refused, chosen-cues}
use Rattle.cue_book.proofs.read_chosen.Goals as goal

pub returns-in_err-walk : goal.returns-in_err-walk
returns-in_err-walk c =
    let is : c.from_residual.result ≡ Err c.in_err-walk.field-0.0 = search rules in
    rw is (sym (chosen-refused c.args.choice c.args.book.now c.in_err-walk.ensures))

pub returns : goal.returns
returns c =
    let w = c.in_ok-walk.ensures in
    ap (λ (n : ℕ). record { refusal = 0; number = n }) w.chosen ∙ sym (chosen-cues c.args.choice c.args.book.now w.reads)
