-- A window of `double_window::find` is one step of the run: it moves by the jump of two letters or, where that is 0, it compares, whether it reports or not, and moves by Horspool's entry.
-- Assumes nothing.
use Rattle.std.proofs.Common.{◌≡◌, ℕ, ◌+◌, ◌-◌, ◌≤◌, List, length, get_or, arith, refl, sym}
use Rattle.matching.specs.Machine.{at}
use Rattle.matching.proofs.Letters.{down-compared}
use Rattle.matching.proofs.Progress.{Accepted, accepted-ok, Progress, Stepped, begins, missed-as, stepped-down, looping, past, keeps}
use Rattle.letter_tables.proofs.BadCharacter.{horspool-filled, horspool-reads}
use Rattle.letter_tables.proofs.Moves.{horspool-goes}
use Rattle.double_window.specs.DoubleWindow.{under, jump, double_window}
use Rattle.double_window.proofs.Sound.{sound, jump-zero, jump_fits, window-zero, window-jump, end-equal}
use Rattle.double_window.proofs.find.Goals as goal

-- u is not the last letter: nothing is compared, and the window moves by the jump
jumps : {P T list₀ list : List ℕ} {s total compared d : ℕ} → Progress double_window P T list₀ (at s 0) total compared list → s + length P ≤ length T
    → (under P T s ≡ get_or P (length P - 1) 0 → ⊥) → d ≡ jump P T s → Stepped double_window P T list₀ s d total compared list
jumps {P} {T} {list₀} {list} {s} {total} {compared} p inside other is =
    let some : jump P T s ≡ 0 → ⊥ = λ z. other (sym (end-equal P T s p.sound.some z)) in
    record {
      progress = rw is (missed-as p inside (window-jump P T s 0 some) (omega arith) refl);
      ahead = omega (arith, some);
      fits = omega (arith, jump_fits P T s inside);
    }

pub overflow_sub-end : goal.overflow_sub-end
overflow_sub-end c =
    let ok : Accepted double_window c.args.pattern.now c.args.text.now c.args.scratch.now = accepted-ok c.in_ok-refused.ensures in
    ok.limits.some

pub bounds-pattern-end : goal.bounds-pattern-end
bounds-pattern-end c =
    let ok : Accepted double_window c.args.pattern.now c.args.text.now c.args.scratch.now = accepted-ok c.in_ok-refused.ensures in
    omega (arith, ok.limits.some)

pub bounds-scratch-last : goal.bounds-scratch-last
bounds-scratch-last c =
    let ok : Accepted double_window c.args.pattern.now c.args.text.now c.args.scratch.now = accepted-ok c.in_ok-refused.ensures in
    omega (arith, ok.limits.room)

pub loop-s-init : goal.loop-s-init
loop-s-init c =
    let a = c.args in
    let ok : Accepted double_window a.pattern.now a.text.now a.scratch.now = accepted-ok c.in_ok-refused.ensures in
    record {
      run = looping (begins ok.limits (sound a.pattern.now a.text.now));
      inside = omega arith;
      table = (horspool-filled a.pattern.now ok.limits.room ok.limits.short c.horspool_table.ensures).entries;
    }

pub loop-s-smaller-then-u-last : goal.loop-s-smaller-then-u-last
loop-s-smaller-then-u-last c =
    let P = c.args.pattern.now in
    let after = horspool-reads P (get_or P (length P - 1) 0) c.loop-s.invariant.run.some c.loop-s.invariant.table (omega arith) in
    omega (arith, after.least)

pub loop-s-preserved-then-u-last : goal.loop-s-preserved-then-u-last
loop-s-preserved-then-u-last c =
    let P = c.args.pattern.now in
    let T = c.args.text.now in
    let s = c.loop-s.s in
    let l = c.loop-s.invariant in
    let last : ℕ = get_or P (length P - 1) 0 in
    let is : last ≡ under P T s = omega arith in
    let after = horspool-reads P last l.run.some l.table (omega arith) in
    let zero = window-zero P T s 0 (jump-zero P T s l.run.some is) in
    let down = down-compared c.compare_down-k.ensures.value (omega arith) (omega arith) in
    record {
      run = looping (horspool-goes s (stepped-down l.run.progress (omega arith) zero down (λ h. grind (arith, h)) (λ h. grind (arith, h))) (rw (← is) after));
      inside = omega (arith, after.most);
      table = l.table;
    }

pub overflow_add-s-else-u-last : goal.overflow_add-s-else-u-last
overflow_add-s-else-u-last c = omega (arith, jump_fits c.args.pattern.now c.args.text.now c.loop-s.s)

pub loop-s-smaller : goal.loop-s-smaller
loop-s-smaller c =
    let d = jumps c.loop-s.invariant.run.progress (omega arith) (λ e. omega arith) c.jump-s.ensures in
    omega (arith, d.ahead)

pub loop-s-preserved : goal.loop-s-preserved
loop-s-preserved c =
    let d = jumps c.loop-s.invariant.run.progress (omega arith) (λ e. omega arith) c.jump-s.ensures in
    record { run = looping d.progress; inside = d.fits; table = c.loop-s.invariant.table }

pub returns : goal.returns
returns c =
    let P = c.args.pattern.now in
    let ok : Accepted double_window P c.args.text.now c.args.scratch.now = accepted-ok c.in_ok-refused.ensures in
    keeps (past c.loop-s.invariant.run.progress (omega arith)) ok.none (horspool-filled P ok.limits.room ok.limits.short c.horspool_table.ensures).left
