-- `automaton::fits`: a phrase that stands in the book and for which there is room is one more.
use Rattle.std.proofs.Common.{rules, arith}
use Rattle.std.proofs.lemmas.Slice.Zip.{zip_turn, zip_end}
use Rattle.automaton.proofs.Fitting.{fitting-none, fits_next, fits_not, fitting-done}
use Rattle.automaton.proofs.fits.Goals as goal

pub loop-start-init : goal.loop-start-init
loop-start-init c = λ f. fitting-none f c.args.book.now c.args.starts.now c.args.lens.now

pub returns-then-not-stands : goal.returns-then-not-stands
returns-then-not-stands c = λ f.
    let t = zip_turn c.args.starts.now c.args.lens.now c.loop-start.yielded _ c.loop-start.start-iterator c.next.new.self _ (search rules) (search rules) c.loop-start.yielded_by _ c.in-Some.is c.next.ensures.steps in
    (search rules, fits_not c.loop-start.yielded c.requires (c.loop-start.invariant f) t c.if-not-stands.ensures.1)

pub loop-start-preserved : goal.loop-start-preserved
loop-start-preserved c = λ f.
    let t = zip_turn c.args.starts.now c.args.lens.now c.loop-start.yielded _ c.loop-start.start-iterator c.next.new.self _ (search rules) (search rules) c.loop-start.yielded_by _ c.in-Some.is c.next.ensures.steps in
    fits_next c.loop-start.yielded c.requires (c.loop-start.invariant f) t _ (c.if-not-stands.ensures.0 (search rules))

pub returns : goal.returns
returns c = λ f.
    let t = zip_end c.args.starts.now c.args.lens.now c.loop-start.yielded _ c.loop-start.start-iterator c.next.new.self _ (search rules) (search rules) c.loop-start.yielded_by c.in-None.is c.next.ensures.steps in
    ((λ _. fitting-done c.requires (c.loop-start.invariant f) (omega (arith, c.requires))), λ _. search rules)
