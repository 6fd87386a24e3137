-- A window of `improved_fjs::search` is one step of the run, and what is left where the loop ends is nothing. Assumes nothing.
use Rattle.std.proofs.Common.{◌+◌, length, arith, get_or}
use Rattle.improved_fjs.proofs.Steps.{going-first, sunday-ends, kmp-most, shift-ends, jumped, moved, searched}
use Rattle.improved_fjs.proofs.search.Goals as goal

pub loop-s-init : goal.loop-s-init
loop-s-init c = going-first c.requires

pub loop-s-smaller-then-first-text : goal.loop-s-smaller-then-first-text
loop-s-smaller-then-first-text c =
    let u = get_or c.args.text.now (c.loop-s.s + length c.args.pattern.now) 0 in
    sunday-ends c.requires u c.loop-s.s (length c.args.text.now + 1) (omega arith) (omega (arith, c.type_inv.text (c.loop-s.s + length c.args.pattern.now)))

pub loop-s-preserved-then-first-text : goal.loop-s-preserved-then-first-text
loop-s-preserved-then-first-text c =
    jumped c.requires c.loop-s.invariant (omega arith) c.if-q-eq0.true c.if-first-text.true (omega arith) (omega (arith, c.type_inv.text (c.loop-s.s + length c.args.pattern.now)))

pub overflow_sub-shift : goal.overflow_sub-shift
overflow_sub-shift c = omega (arith, kmp-most c.requires c.reach-k.result (omega arith))

pub loop-s-smaller : goal.loop-s-smaller
loop-s-smaller c =
    shift-ends c.requires c.loop-s.q c.reach-k.result c.loop-s.s (length c.args.text.now + 1) (omega arith) (omega arith) (λ h. grind (arith, h)) (λ h. grind (arith, h))

pub loop-s-preserved : goal.loop-s-preserved
loop-s-preserved c =
    moved c.requires c.loop-s.invariant (omega arith) (λ h. grind (arith, h)) c.reach-k.ensures.value (λ h. grind (arith, h)) (λ h. grind (arith, h)) (λ h. grind (arith, h)) (λ h. grind (arith, h)) c.saturating_sub-q.ensures

pub returns : goal.returns
returns c = searched c.requires c.loop-s.invariant (λ h. grind (arith, h)) (λ h. grind (arith, h)) (λ h e. grind (arith, h, e))
