-- A window of `sunday::find` is one step of the run, whether it reports or not; the loop is left by its test, or where no letter follows the window. Assumes nothing.
use mathlib.Core.Logic.{⊎_elim}
use Rattle.std.proofs.Common.{◌≡◌, ℕ, ◌+◌, ◌<◌, ◌≤◌, List, length, get_or, arith, refl}
use Rattle.std.proofs.lemmas.Bool.{cases_lt}
use Rattle.matching.specs.Letters.{reach}
use Rattle.matching.proofs.Letters.{Upward, up_next, up-stops, up_ends}
use Rattle.matching.proofs.Progress.{Accepted, accepted-ok, begins, stepped-up, looping, past, keeps}
use Rattle.letter_tables.proofs.BadCharacter.{sunday-filled, sunday-reads}
use Rattle.letter_tables.proofs.Moves.{sunday-goes, sunday-over}
use Rattle.sunday.specs.Sunday.{window, sunday}
use Rattle.sunday.proofs.Sound.{sound}
use Rattle.sunday.proofs.find.Goals.{else-loop-s-test, then-loop-s-test+then-n-s}
use Rattle.sunday.proofs.find.Goals as goal

-- the inner loop is left at an unequal pair or past the pattern's end: as many letters are equal as it has passed
reached : {P T : List ℕ} {s k : ℕ} → Upward P T s 0 (length P) k → s + length P ≤ length T → (k < length P → get_or P k 0 ≡ get_or T (s + k) 0 → ⊥) → k ≡ reach P T s 0
reached {P} {T} {s} {k} u inside differs = ⊎_elim (λ h. up-stops u inside h (differs h)) (λ h. up_ends u inside h) (cases_lt k (length P))

pub loop-s-init : goal.loop-s-init
loop-s-init c =
    let a = c.args in
    let ok : Accepted sunday a.pattern.now a.text.now a.scratch.now = accepted-ok c.in_ok-refused.ensures in
    record {
      run = looping (begins ok.limits (sound a.pattern.now a.text.now));
      inside = omega arith;
      table = (sunday-filled a.pattern.now ok.limits.room ok.limits.short c.sunday_table.ensures).entries;
    }

pub loop-s-smaller : goal.loop-s-smaller
loop-s-smaller c =
    let l = c.loop-s.invariant in
    let next = sunday-reads c.args.pattern.now (get_or c.args.text.now (c.loop-s.s + length c.args.pattern.now) 0) l.table (omega arith) in
    omega (arith, next.least)

pub loop-s-preserved : goal.loop-s-preserved
unfolding window
loop-s-preserved c =
    let P = c.args.pattern.now in
    let T = c.args.text.now in
    let s = c.loop-s.s in
    let l = c.loop-s.invariant in
    let next = sunday-reads P (get_or T (s + length P) 0) l.table (omega arith) in
    let u = c.loop-k.invariant in
    let is = reached u (omega arith) (λ h e. grind (arith, h, e)) in
    record {
      run = looping (sunday-goes s (stepped-up l.run.progress (omega arith) refl is u.upto (λ h. grind (arith, h)) (λ h. grind (arith, h))) (omega arith) next);
      inside = omega (arith, next.most);
      table = l.table;
    }

pub returns : goal.returns
unfolding window
returns c =
    let P = c.args.pattern.now in
    let T = c.args.text.now in
    let s = c.loop-s.s in
    let l = c.loop-s.invariant in
    let ok : Accepted sunday P T c.args.scratch.now = accepted-ok c.in_ok-refused.ensures in
    let left = (sunday-filled P ok.limits.room ok.limits.short c.sunday_table.ensures).left in
    elim c.loop-s-test.branch [
      | else-loop-s-test w ↦ rw (w.list-is, w.total-is, w.compared-is) (keeps (past l.run.progress (omega arith)) ok.none left)
      | then-loop-s-test+then-n-s w ↦
          let u = w.loop-k.invariant in
          let is = reached u (omega arith) (λ h e. grind (arith, h, e)) in
          keeps (sunday-over s (stepped-up l.run.progress (omega arith) refl is u.upto (λ h. grind (arith, h)) (λ h. grind (arith, h))) (omega arith)) ok.none left
    ]

pub loop-k-preserved : goal.loop-k-preserved
loop-k-preserved c = up_next c.loop-k.invariant (omega arith) (omega arith) (omega arith) c.if-pattern-k.false
