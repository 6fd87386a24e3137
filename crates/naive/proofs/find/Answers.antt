-- A window of `naive::find` is one step of the run, whether it reports or not; after the last window all occurrences were found. Assumes nothing.
use Rattle.std.proofs.Common.{arith, refl, sym}
use Rattle.matching.proofs.Letters.{reach-after_first, reach-nothing}
use Rattle.matching.proofs.Received.{received_none}
use Rattle.matching.proofs.Progress.{Accepted, accepted-ok, begins, stepped-up, miss-up, looping, past, keeps}
use Rattle.naive.specs.Naive.{window, naive}
use Rattle.naive.proofs.Sound.{sound}
use Rattle.naive.proofs.find.Goals as goal

pub loop-s-init : goal.loop-s-init
loop-s-init c =
    let a = c.args in
    let ok : Accepted naive a.pattern.now a.text.now a.scratch.now = accepted-ok c.in_ok-refused.ensures in
    looping (begins ok.limits (sound a.pattern.now a.text.now))

pub loop-s-preserved-then-pattern-text : goal.loop-s-preserved-then-pattern-text
unfolding window
loop-s-preserved-then-pattern-text c =
    let l = c.loop-s.invariant in
    looping (miss-up l.progress (omega arith) refl (sym (reach-nothing c.args.pattern.now c.args.text.now c.loop-s.s l.some (omega arith) c.if-pattern-text.true)) l.some (omega arith))

pub loop-s-preserved : goal.loop-s-preserved
unfolding window
loop-s-preserved c =
    let l = c.loop-s.invariant in
    let reached = reach-after_first c.args.pattern.now c.args.text.now c.loop-s.s l.some (omega arith) c.if-pattern-text.false (omega arith) c.compare_up-k.ensures.value in
    looping (stepped-up l.progress (omega arith) refl reached.0 reached.1 (λ h. grind (arith, h)) (λ h. grind (arith, h)))

pub returns : goal.returns
returns c =
    let a = c.args in
    let ok : Accepted naive a.pattern.now a.text.now a.scratch.now = accepted-ok c.in_ok-refused.ensures in
    keeps (past c.loop-s.invariant.progress (omega arith)) ok.none (sym (received_none a.scratch.now))
