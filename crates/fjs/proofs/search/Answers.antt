-- A window of `fjs::search` is one step of the run, and what is left where the loop ends is nothing. Assumes nothing.
use Rattle.std.proofs.Common.{◌+◌, length, arith}
use Rattle.fjs.proofs.Steps.{going-first, sunday-ends, kmp-ends, kmp-fits, jumped, moved, over}
use Rattle.fjs.proofs.search.Goals as goal

pub loop-s-init : goal.loop-s-init
loop-s-init g c = going-first c.requires.ready g.N.Note.after g.N.Note.noted c.requires.none

pub loop-s-smaller-then-pattern-end : goal.loop-s-smaller-then-pattern-end
loop-s-smaller-then-pattern-end g c = sunday-ends c.requires.ready c.loop-s.s (length c.args.text.now + 1) (omega arith) (omega (arith, c.type_inv.text (c.loop-s.s + length c.args.pattern.now)))

pub loop-s-preserved-then-pattern-end : goal.loop-s-preserved-then-pattern-end
loop-s-preserved-then-pattern-end g c =
    let u = c.type_inv.text (c.loop-s.s + length c.args.pattern.now) in
    jumped c.requires.ready g.met.N.Note.one_more c.loop-s.invariant (omega arith) (omega arith) c.if-pattern-end.true (omega arith) (omega (arith, u)) c.note.ensures

pub overflow_sub-next : goal.overflow_sub-next
overflow_sub-next g c = kmp-fits c.requires.ready (grind arith)

pub loop-s-smaller : goal.loop-s-smaller
loop-s-smaller g c = kmp-ends c.requires.ready c.loop-s.s (length c.args.text.now + 1) (omega arith) (grind arith)

pub loop-s-preserved : goal.loop-s-preserved
loop-s-preserved g c =
    moved c.requires.ready g.met.N.Note.one_more c.loop-s.invariant (omega arith) (λ h. grind (arith, h)) (λ h. grind (arith, h)) (omega arith) c.compare_up-equal.ensures.value (λ h. grind (arith, h)) (λ h. grind (arith, h))
    c.saturating_sub-q.ensures c.note-in-loop-s.ensures

pub returns-clause-searched : goal.returns-clause-searched
returns-clause-searched g c = (over c.requires.ready g.met.N.Note.one_more c.loop-s.invariant (λ h. grind (arith, h)) (λ h. grind (arith, h)) (λ h e. grind (arith, h, e))).found

pub returns-clause-told : goal.returns-clause-told
returns-clause-told g c =
    (over c.requires.ready g.met.N.Note.one_more {c = c.loop-s-test.compared} c.loop-s.invariant (λ h. grind (arith, h)) (λ h. grind (arith, h)) (λ h e. grind (arith, h, e))).told_all
