-- A window of `kmp::find` is one step of the run, whether it reports or not, and so is one that ends at its first letter; after the last window all occurrences were found. The bound is
-- that of the steps (proofs/Bound.antt). Assumes nothing.
use mathlib.Core.Logic.{⊎_elim}
use Rattle.std.proofs.Common.{◌≡◌, ℕ, ◌+◌, ◌<◌, ◌≤◌, max, List, length, get_or, arith, refl, sym, ap, ◌∙◌}
use Rattle.std.proofs.lemmas.Bool.{cases_lt}
use Rattle.matching.specs.Letters.{reach}
use Rattle.matching.specs.Machine.{at, first_to_last}
use Rattle.matching.proofs.Letters.{reach-nothing, Upward, up_none, up_first, up_next, up-stops, up_ends}
use Rattle.matching.proofs.Progress.{Accepted, accepted-ok, begins, stepped-up, miss-up, looping, past, over-compared, keeps}
use Rattle.tables.specs.Tables.{Entries}
use Rattle.tables.proofs.Tables.{Reads}
use Rattle.border_tables.specs.Kmp.{kmp_entry}
use Rattle.border_tables.specs.Moves.{kmp_move}
use Rattle.border_tables.proofs.Kmp.{kmp_entry-le, kmp-filled, kmp-reads}
use Rattle.border_tables.proofs.Moves.{kmp-next, kmp-goes}
use Rattle.kmp.specs.Kmp.{window, kmp}
use Rattle.kmp.proofs.Sound.{sound}
use Rattle.kmp.proofs.Bound.{bound}
use Rattle.kmp.proofs.find.Goals as goal

module _ (P T : List ℕ) (s q : ℕ) where
  -- the window, told by how many letters are equal
  window-is : {k : ℕ} → k ≡ reach P T s q → window P T s q ≡ first_to_last P T s q (kmp_move P s k)
  unfolding window
  window-is is = rw is refl

  -- nothing is carried and the first letter differs: the window moves on by 1, since b[1] is 0
  window-first : reach P T s q ≡ 0 → q ≡ 0 → window P T s q ≡ first_to_last P T s q (at (s + 1) q)
  window-first none carried = window-is (sym none) ∙ ap (first_to_last P T s q) (kmp-next P s 0 0 (s + 1) q (omega (arith, kmp_entry-le P 0)) (omega arith) (omega arith))

-- the inner loop begins past the letters carried, or past the first, which was looked at by itself
from-known : {P T : List ℕ} {s q k : ℕ} → q < length P → s < length T → k ≡ max q 1 → (q ≡ 0 → get_or P 0 0 ≡ get_or T s 0) → Upward P T s q (length P) k
from-known {q = q} part inside is first = ⊎_elim (λ h. up_first (omega arith) inside (omega arith) (omega arith) (first (omega arith))) (λ h. up_none (omega arith) (omega arith)) (cases_lt q 1)

-- and is left at an unequal pair or past the pattern's end: as many letters are equal as it has passed
reached : {P T : List ℕ} {s q k : ℕ} → Upward P T s q (length P) k → s + length P ≤ length T → (k < length P → get_or P k 0 ≡ get_or T (s + k) 0 → ⊥) → k ≡ reach P T s q
reached {P} {T} {s} {q} {k} u inside differs = ⊎_elim (λ h. up-stops u inside h (differs h)) (λ h. up_ends u inside h) (cases_lt k (length P))

-- the entry by which the window moves, where k letters are equal
read : (P : List ℕ) {table : List ℕ} (k : ℕ) → Entries 0 (length P + 1) (kmp_entry P) table → k ≤ length P → Reads (get_or table k 0) (kmp_entry P k) 0 k
read P k t h = kmp-reads P t h (omega arith)

pub loop-s-init : goal.loop-s-init
loop-s-init c =
    let a = c.args in
    let ok : Accepted kmp a.pattern.now a.text.now a.scratch.now = accepted-ok c.in_ok-refused.ensures in
    record {
      run = looping (begins ok.limits (sound a.pattern.now a.text.now));
      part = ok.limits.some;
      inside = omega arith;
      table = (kmp-filled a.pattern.now ok.limits.room ok.limits.short c.kmp_table.ensures).entries;
    }

pub loop-s-preserved-then-pattern-text : goal.loop-s-preserved-then-pattern-text
loop-s-preserved-then-pattern-text c =
    let P = c.args.pattern.now in
    let T = c.args.text.now in
    let s = c.loop-s.s in
    let l = c.loop-s.invariant in
    let q = c.loop-s.q in
    let none : reach P T s q ≡ 0 = ap (reach P T s) c.if-q-eq0.true ∙ reach-nothing P T s l.run.some (omega arith) c.if-pattern-text.true in
    record {
      run = looping (miss-up l.run.progress (omega arith) (window-first P T s q none c.if-q-eq0.true) (sym none) l.run.some (omega arith));
      part = l.part;
      inside = omega arith;
      table = l.table;
    }

pub overflow_sub-s : goal.overflow_sub-s
overflow_sub-s c =
    let b = read c.args.pattern.now c.loop-k.k c.loop-s.invariant.table (omega arith) in
    omega (arith, b.most)

pub loop-s-smaller : goal.loop-s-smaller
loop-s-smaller c =
    let b = read c.args.pattern.now c.loop-k.k c.loop-s.invariant.table (omega arith) in
    omega (arith, b.most)

pub loop-s-preserved : goal.loop-s-preserved
loop-s-preserved c =
    let P = c.args.pattern.now in
    let T = c.args.text.now in
    let s = c.loop-s.s in
    let q = c.loop-s.q in
    let l = c.loop-s.invariant in
    let k = c.loop-k.k in
    let u = c.loop-k.invariant in
    let is = reached u (omega arith) (λ h e. grind (arith, h, e)) in
    let b = read P k l.table u.upto in
    record {
      run = looping (kmp-goes s k (stepped-up l.run.progress (omega arith) (window-is P T s q is) is u.upto (λ h. grind (arith, h)) (λ h. grind (arith, h))) b (omega arith));
      part = omega (arith, b.most);
      inside = omega (arith, b.most);
      table = l.table;
    }

pub returns-clause-found : goal.returns-clause-found
returns-clause-found c =
    let P = c.args.pattern.now in
    let ok : Accepted kmp P c.args.text.now c.args.scratch.now = accepted-ok c.in_ok-refused.ensures in
    keeps (past c.loop-s.invariant.run.progress (omega arith)) ok.none (kmp-filled P ok.limits.room ok.limits.short c.kmp_table.ensures).left

pub returns-clause-bounded : goal.returns-clause-bounded
returns-clause-bounded c h =
    let l = c.loop-s.invariant.run in
    omega (arith, over-compared (past l.progress (omega arith)), bound c.args.pattern.now c.args.text.now l.some h)

pub loop-k-init : goal.loop-k-init
loop-k-init c = from-known c.loop-s.invariant.part (omega arith) (omega arith) (λ h. grind (arith, h))

pub loop-k-preserved : goal.loop-k-preserved
loop-k-preserved c = up_next c.loop-k.invariant (omega arith) (omega arith) (omega arith) c.if-pattern-k.false
