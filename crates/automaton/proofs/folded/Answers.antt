-- `automaton::folded`: page 15 folds as it does, and each other page as page 1.
use Rattle.std.proofs.Common.{sym, ap, ◌∙◌}
use Rattle.fold.proofs.Fold.{on-15, not-on-15}
use Rattle.automaton.proofs.folded.Goals as goal

pub returns-then-page-eq15 : goal.returns-then-page-eq15
returns-then-page-eq15 c = c.on_page_15.ensures ∙ ap (λ f. f c.args.byte) (sym (on-15 c.if-page-eq15.true))

pub returns : goal.returns
returns c = c.on_page_1.ensures ∙ ap (λ f. f c.args.byte) (sym (not-on-15 c.if-page-eq15.false))
