-- A window of `horspool::find` is one step of the run, whether it reports or not; after the last window all occurrences were found. Assumes nothing.
use Rattle.std.proofs.Common.{◌+◌, ◌-◌, length, get_or, arith, refl}
use Rattle.matching.proofs.Letters.{down-compared}
use Rattle.matching.proofs.Progress.{Accepted, accepted-ok, begins, stepped-down, looping, past, keeps}
use Rattle.letter_tables.proofs.BadCharacter.{horspool-filled, horspool-reads}
use Rattle.letter_tables.proofs.Moves.{horspool-goes}
use Rattle.horspool.specs.Horspool.{window, horspool}
use Rattle.horspool.proofs.Sound.{sound}
use Rattle.horspool.proofs.find.Goals as goal

pub overflow_sub-end : goal.overflow_sub-end
overflow_sub-end c =
    let ok : Accepted horspool c.args.pattern.now c.args.text.now c.args.scratch.now = accepted-ok c.in_ok-refused.ensures in
    ok.limits.some

pub loop-s-init : goal.loop-s-init
loop-s-init c =
    let a = c.args in
    let ok : Accepted horspool a.pattern.now a.text.now a.scratch.now = accepted-ok c.in_ok-refused.ensures in
    record {
      run = looping (begins ok.limits (sound a.pattern.now a.text.now));
      inside = omega arith;
      table = (horspool-filled a.pattern.now ok.limits.room ok.limits.short c.horspool_table.ensures).entries;
    }

pub loop-s-smaller : goal.loop-s-smaller
loop-s-smaller c =
    let l = c.loop-s.invariant in
    let next = horspool-reads c.args.pattern.now (get_or c.args.text.now (c.loop-s.s + (length c.args.pattern.now - 1)) 0) l.run.some l.table (omega arith) in
    omega (arith, next.least)

pub loop-s-preserved : goal.loop-s-preserved
unfolding window
loop-s-preserved c =
    let P = c.args.pattern.now in
    let T = c.args.text.now in
    let s = c.loop-s.s in
    let l = c.loop-s.invariant in
    let next = horspool-reads P (get_or T (s + (length P - 1)) 0) l.run.some l.table (omega arith) in
    let down = down-compared c.compare_down-k.ensures.value (omega arith) (omega arith) in
    record {
      run = looping (horspool-goes s (stepped-down l.run.progress (omega arith) refl down (λ h. grind (arith, h)) (λ h. grind (arith, h))) next);
      inside = omega (arith, next.most);
      table = l.table;
    }

pub returns : goal.returns
returns c =
    let P = c.args.pattern.now in
    let ok : Accepted horspool P c.args.text.now c.args.scratch.now = accepted-ok c.in_ok-refused.ensures in
    keeps (past c.loop-s.invariant.run.progress (omega arith)) ok.none (horspool-filled P ok.limits.room ok.limits.short c.horspool_table.ensures).left
