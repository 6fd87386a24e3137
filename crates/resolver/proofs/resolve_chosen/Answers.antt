-- `resolver::resolve_chosen`: the tests in their order, then the text folded and the groups resolved; where there is no cue, the scratch cleared.
use Rattle.std.proofs.Common.{rules, arith, ◌≡◌, sym, ap, ◌∙◌}
use Rattle.std.specs.Prelude.{Err, length}
use lib.ListN.{length-map}
use Rattle.matching.specs.declared.refusal.Refusal.TheVariants.{ShortEntries}
use Rattle.matching.proofs.Find.{number-some}
use Rattle.fold.specs.Fold.{fold_on}
use Rattle.resolver.proofs.Calls.{resolved-memory, resolved-book, tested-few, tested-fold, tested-room, tested-front, tested-none, tested-ready, tested-works}
use Rattle.resolver.proofs.resolve_chosen.Goals as goal

pub returns-in_err-refused : goal.returns-in_err-refused
returns-in_err-refused c =
    let is : c.from_residual.result ≡ Err (record { fault = record { refusal = c.in_err-refused.field-0.0; number = 0 }; reads = 0 }) = search rules in
    rw is (resolved-memory _ _ _ _ _ _ _ c.in_err-refused.ensures (λ z. omega (arith, z, number-some c.in_err-refused.field-0.0)))

pub returns-in_err-cues : goal.returns-in_err-cues
returns-in_err-cues c =
    let is : c.from_residual-in_err-cues.result ≡ Err (record { fault = c.in_err-cues.field-0.0; reads = 0 }) = search rules in
    rw is (resolved-book _ _ _ _ _ _ _ (sym c.in_ok-refused.ensures) c.in_err-cues.ensures (λ z. omega (arith, z, number-some c.in_err-cues.field-0.0.refusal)))

pub returns-then-entries-cues : goal.returns-then-entries-cues
returns-then-entries-cues c =
    let is : c.into.result ≡ record { fault = record { refusal = ShortEntries; number = 0 }; reads = 0 } = search rules in
    rw is (tested-few _ _ _ _ _ _ _ (sym c.in_ok-refused.ensures) c.in_ok-cues.ensures c.if-entries-cues.true)

pub returns-in_err-letters : goal.returns-in_err-letters
returns-in_err-letters c = absurd (tested-fold c.args.choice c.args.page c.args.book.now c.args.text.now c.args.copy.now c.args.scratch.now c.args.entries.now (sym c.in_ok-refused.ensures) _ c.in_err-letters.ensures)

pub returns-then-cues-eq0 : goal.returns-then-cues-eq0
returns-then-cues-eq0 c = tested-none _ _ _ _ _ _ _ (sym c.in_ok-refused.ensures) c.in_ok-cues.ensures c.in_ok-letters.ensures c.if-entries-cues.false c.if-cues-eq0.true c.set_all.ensures

pub slice_bounds-job-end : goal.slice_bounds-job-end
slice_bounds-job-end c = omega (arith, c.letters.auto.target, tested-room c.args.choice c.args.page c.args.book.now c.args.text.now c.args.copy.now c.args.scratch.now c.args.entries.now (sym c.in_ok-refused.ensures))

pub slice_bounds-job-end-2 : goal.slice_bounds-job-end-2
slice_bounds-job-end-2 c = sym (ap length (tested-front c.args.choice c.args.page c.args.book.now c.args.text.now c.args.copy.now c.args.scratch.now c.args.entries.now (sym c.in_ok-refused.ensures) c.in_ok-cues.ensures c.in_ok-letters.ensures) ∙ length-map c.args.text.now (fold_on c.args.page))

pub resolve_groups-requires : goal.resolve_groups-requires
resolve_groups-requires c = tested-ready c.args.choice c.args.page c.args.book.now c.args.text.now c.args.copy.now c.args.scratch.now c.args.entries.now (sym c.in_ok-refused.ensures) c.in_ok-cues.ensures c.in_ok-letters.ensures (omega (arith, c.if-cues-eq0.false))

pub returns : goal.returns
returns c = tested-works _ _ _ _ _ _ _ (sym c.in_ok-refused.ensures) c.in_ok-cues.ensures c.in_ok-letters.ensures c.if-entries-cues.false c.resolve_groups.ensures
