-- At each cue the book is its cues so far and what the rest reads as, so a cue that is refused, or the end, is the book's; a cue that is read is one more. Another cue may follow only below 999. Assumes nothing.
use Rattle.std.proofs.Common.{◌≡◌, ◌<◌, sym, ap, ◌∙◌, length, rules, arith}
use Rattle.std.specs.Prelude.{Ok, Err}
use Rattle.matching.proofs.Find.{number-some}
use Rattle.cues.proofs.Cues.{cue-at, title-ends}
use Rattle.cue_book.specs.Reading.{Reading, cues, playing_for, cues_in}
use Rattle.cue_book.proofs.Books.{so-far-over, so-far-refused, so-far-end, counted-first, counted-few, counted_next, noted-first, noted_next, part-cues}
use Rattle.cue_book.proofs.walk.Goals as goal

pub loop-place-init : goal.loop-place-init
loop-place-init c = record { counted = counted-first c.args.book.now c.args.choice; noted = noted-first c.args.book.now c.args.wanted }

pub returns-then-index-eq-MOST_CUES : goal.returns-then-index-eq-MOST_CUES
returns-then-index-eq-MOST_CUES c = so-far-over c.loop-place.invariant.counted.so_far c.loop-place-test.true c.if-index-eq-MOST_CUES.true

pub returns-in_err-cue : goal.returns-in_err-cue
returns-in_err-cue c =
    let is : c.from_residual.result ≡ Err c.in_err-cue.field-0.0 = search rules in
    let was : c.read_cue.result ≡ Err c.in_err-cue.field-0.0.refusal = search rules in
    let at : c.in_err-cue.field-0.0.number ≡ c.loop-place.index = search rules in
    let few : c.loop-place.index < 999 = omega (arith, c.loop-place.invariant.counted.so_far.left) in
    let read = rw was at c.read_cue.ensures in
    rw (is, at) (so-far-refused c.loop-place.invariant.counted.so_far c.loop-place-test.true few (sym read.number) (λ z. omega (arith, z, number-some c.in_err-cue.field-0.0.refusal)))

pub overflow_add-chosen : goal.overflow_add-chosen
overflow_add-chosen c = omega (arith, counted-few c.loop-place.invariant.counted, c.loop-place.invariant.counted.so_far.left)

pub overflow_sub-title : goal.overflow_sub-title
overflow_sub-title c =
    let was : c.read_cue.result ≡ Ok c.in_ok-cue.cue = search rules in
    omega (arith, (title-ends (cue-at (rw was at c.read_cue.ensures))).0)

pub loop-place-smaller : goal.loop-place-smaller
loop-place-smaller c =
    let was : c.read_cue.result ≡ Ok c.in_ok-cue.cue = search rules in
    omega (arith, (title-ends (cue-at (rw was at c.read_cue.ensures))).1, c.loop-place-test.true)

pub loop-place-preserved : goal.loop-place-preserved
loop-place-preserved c =
    let a = c.loop-place.invariant.counted in
    let was : c.read_cue.result ≡ Ok c.in_ok-cue.cue = search rules in
    let t = cue-at (rw was at c.read_cue.ensures) in
    let few : c.loop-place.index < 999 = omega (arith, a.so_far.left) in
    record {
      counted = counted_next a c.loop-place-test.true few t (λ h. grind (arith, h)) (λ h. grind (arith, h));
      noted = noted_next a.so_far t c.loop-place.invariant.noted (λ h. grind (arith, h)) (λ h. grind (arith, h));
    }

pub returns : goal.returns
returns c =
    let a = c.loop-place.invariant.counted.so_far in
    let e = so-far-end a c.loop-place-test.false in
    record {
      reads = e ∙ ap (λ (r : Reading). cues (cues_in r)) (sym e);
      counted = sym a.counted ∙ ap (λ (r : Reading). length (cues_in r)) (sym e);
      chosen = c.loop-place.invariant.counted.are ∙ ap (λ (r : Reading). length (playing_for c.args.choice (cues_in r))) (sym e);
      part = c.loop-place.invariant.noted.is ∙ sym (part-cues _ _ e ∙ rw a.counted);
    }
