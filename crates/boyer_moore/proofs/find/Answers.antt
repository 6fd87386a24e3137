-- A window of `boyer_moore::find` is one step of the run; after the last window all occurrences were found. Assumes nothing.
use Rattle.std.proofs.Common.{◌+◌, ◌-◌, length, arith}
use Rattle.matching.proofs.Progress.{past, keeps}
use Rattle.boyer_moore.proofs.Steps.{allowed, going-first, first-least, moved, ends}
use Rattle.boyer_moore.proofs.find.Goals as goal

pub make_tables-requires-clause-short : goal.make_tables-requires-clause-short
make_tables-requires-clause-short c = (allowed c.args.pattern.now c.args.text.now c.in_ok-refused.ensures).limits.short

pub make_tables-requires-clause-room : goal.make_tables-requires-clause-room
make_tables-requires-clause-room c = (allowed c.args.pattern.now c.args.text.now c.in_ok-refused.ensures).limits.room

pub overflow_sub-end : goal.overflow_sub-end
overflow_sub-end c = (allowed c.args.pattern.now c.args.text.now c.in_ok-refused.ensures).limits.some

pub bounds-pattern-end : goal.bounds-pattern-end
bounds-pattern-end c = let ok = allowed c.args.pattern.now c.args.text.now c.in_ok-refused.ensures in omega (arith, ok.limits.some)

pub bounds-scratch-256 : goal.bounds-scratch-256
bounds-scratch-256 c = let ok = allowed c.args.pattern.now c.args.text.now c.in_ok-refused.ensures in omega (arith, ok.limits.some, c.make_tables.ensures.made.room)

pub overflow_sub-after : goal.overflow_sub-after
overflow_sub-after c = let ok = allowed c.args.pattern.now c.args.text.now c.in_ok-refused.ensures in first-least c.make_tables.ensures.made ok.limits.some

pub loop-s-init : goal.loop-s-init
loop-s-init c = going-first (allowed c.args.pattern.now c.args.text.now c.in_ok-refused.ensures)

pub loop-s-smaller : goal.loop-s-smaller
loop-s-smaller c =
    let u = c.type_inv.text (c.loop-s.s + (length c.args.pattern.now - 1)) in
    ends c.args.pattern.now c.args.text.now c.make_tables.ensures.made c.loop-s.invariant.run.some (omega arith) (omega (arith, u)) (λ h. grind (arith, h)) (λ e h. grind (arith, e, h)) (λ e h. grind (arith, e, h)) (length c.args.text.now + 1) (omega arith)

pub loop-s-preserved : goal.loop-s-preserved
loop-s-preserved c =
    let u = c.type_inv.text (c.loop-s.s + (length c.args.pattern.now - 1)) in
    moved c.args.pattern.now c.args.text.now c.make_tables.ensures.made c.loop-s.invariant.run.some (omega arith) (omega (arith, u)) (λ h. grind (arith, h)) (λ e h. grind (arith, e, h)) (λ e h. grind (arith, e, h)) c.loop-s.invariant
    (λ h. grind (arith, h)) (λ e h. grind (arith, e, h)) (λ e h. grind (arith, e, h))

pub returns : goal.returns
returns c =
    let ok = allowed c.args.pattern.now c.args.text.now c.in_ok-refused.ensures in
    keeps (past c.loop-s.invariant.run.progress (omega arith)) ok.none c.make_tables.ensures.left
