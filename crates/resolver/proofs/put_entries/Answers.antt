-- `resolver::put_entries`: what was counted on is the place's, and line and column are small, since the text is.
use Rattle.std.proofs.Common.{ℕ, List, ◌+◌, ap, ap₂, ◌∙◌, arith, set}
use Rattle.line_column.specs.declared.LineColumn.{LineColumn}
use Rattle.line_column.proofs.Lines.{line_known, line_small, column-small}
use Rattle.resolver.proofs.put_entries.Goals as goal

pub overflow_cast-known-2 : goal.overflow_cast-known-2
overflow_cast-known-2 c = omega (arith, ap (λ (x : LineColumn). x.line) c.requires.1.1, line_small c.args.text.now c.args.known.place, c.requires.1.0)

pub overflow_cast-known-3 : goal.overflow_cast-known-3
overflow_cast-known-3 c = omega (arith, ap (λ (x : LineColumn). x.column) c.requires.1.1, column-small c.args.text.now c.args.known.place, c.requires.1.0)

pub overflow_cast-line : goal.overflow_cast-line
overflow_cast-line c =
    let spot = c.line_column-here.ensures ∙ line_known c.args.text.now c.args.known.place c.args.place c.requires.1.1 in
    omega (arith, ap (λ (x : LineColumn). x.line) spot, line_small c.args.text.now c.args.place, c.requires.1.0)

pub overflow_cast-column : goal.overflow_cast-column
overflow_cast-column c =
    let spot = c.line_column-here.ensures ∙ line_known c.args.text.now c.args.known.place c.args.place c.requires.1.1 in
    omega (arith, ap (λ (x : LineColumn). x.column) spot, column-small c.args.text.now c.args.place, c.requires.1.0)

pub returns-clause-spot : goal.returns-clause-spot
returns-clause-spot c = ap (λ (x : LineColumn). record { place = c.args.place; at = x }) (c.line_column-here.ensures ∙ line_known c.args.text.now c.args.known.place c.args.place c.requires.1.1)

pub returns-clause-put : goal.returns-clause-put
returns-clause-put c =
    let spot = c.line_column-here.ensures ∙ line_known c.args.text.now c.args.known.place c.args.place c.requires.1.1 in
    c.store-3.ensures
    ∙ ap₂ (λ (l : List ℕ) (v : ℕ). set l (c.args.at + 2) v)
    (c.store-2.ensures ∙ ap₂ (λ (l : List ℕ) (v : ℕ). set l (c.args.at + 1) v) c.store.ensures (ap (λ (x : LineColumn). x.line) spot))
    (ap (λ (x : LineColumn). x.column) spot)
