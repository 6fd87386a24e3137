-- `border_tables::max_shift_table`: the KMP maker leaves the entries, and a turn reads one of them and writes its shift. Assumes nothing.
use Rattle.std.proofs.Common.{◌≡◌, ℕ, suc, ◌+◌, ◌≤◌, ◌<◌, List, length, get_or, set, arith, ap, sym, ◌∙◌}
use Rattle.tables.proofs.Tables.{then, then-first, then_next, Ruled, ruled-as, ruled-next, made-ruled}
use Rattle.letter_tables.specs.declared.Gap.{Gap}
use Rattle.letter_tables.specs.Gaps.{md, gap_found}
use Rattle.letter_tables.proofs.Gaps.{widest-le, found-widest}
use Rattle.border_tables.specs.Kmp.{kmp_entry}
use Rattle.border_tables.specs.MaxShift.{max_shift}
use Rattle.border_tables.proofs.Kmp.{kmp_entry-le}
use Rattle.border_tables.proofs.MaxShift.{kmp_shift-le, shift-next, max-kept, max-made}
use Rattle.border_tables.proofs.max_shift_table.Goals as goal

-- md, as the gap was found
width : (P : List ℕ) {g : Gap} → length P ≤ 65535 → g ≡ gap_found P → g.width ≡ md P
width P h e = ap (λ (g : Gap). g.width) (e ∙ found-widest P h)

-- the KMP entries, and then the shifts of 1 to q
abbrev Shifts : List ℕ → ℕ → List ℕ → List ℕ → Type 0
Shifts P q = Ruled (length P + 1 + q) (then (length P + 1) (kmp_entry P) (max_shift P))

-- the entry that a turn reads
entry : (P : List ℕ) (q : ℕ) {t₀ t : List ℕ} → q ≤ length P → Shifts P q t₀ t → get_or t q 0 ≡ kmp_entry P q
entry P q h r = r.entry q (omega arith) ∙ sym (then-first (length P + 1) (kmp_entry P) (max_shift P) q (omega arith))

-- the shift that it writes
stored : (P : List ℕ) (q : ℕ) {t₀ t : List ℕ} {v : ℕ} → length P + 1 + q < length t₀ → Shifts P q t₀ t → v ≡ max_shift P q → Shifts P (q + 1) t₀ (set t (length P + 1 + q) v)
stored P q {v = v} room r e =
    let z : length P + 1 + (q + 1) ≡ suc (length P + 1 + q) = omega arith in
    rw z (ruled-next room r v (e ∙ then_next (length P + 1) (kmp_entry P) (max_shift P) q))

pub returns-then-m-gt65535 : goal.returns-then-m-gt65535
returns-then-m-gt65535 c = (c.widest_gap-widest.ensures, max-kept c.args.pattern.now c.args.table.now (λ h k. grind (arith, c.then-m-gt65535.branch)))

pub overflow_cast-md : goal.overflow_cast-md
overflow_cast-md c = let P = c.args.pattern.now in omega (arith, width P (omega arith) c.widest_gap-widest.ensures, widest-le P (length P))

pub loop-q-init : goal.loop-q-init
loop-q-init c =
    let P = c.args.pattern.now in
    let z : length P + 1 + 0 ≡ length P + 1 = omega arith in
    rw z (ruled-as (then-first (length P + 1) (kmp_entry P) (max_shift P)) (made-ruled (length P) (omega arith) (omega arith) c.kmp_table.ensures))

pub overflow_sub-shift : goal.overflow_sub-shift
overflow_sub-shift c = omega (arith, entry c.args.pattern.now c.loop-q.q (omega arith) c.loop-q.invariant, kmp_entry-le c.args.pattern.now c.loop-q.q)

pub overflow_add-shift : goal.overflow_add-shift
overflow_add-shift c = let P = c.args.pattern.now in let q = c.loop-q.q in omega (arith, entry c.args.pattern.now c.loop-q.q (omega arith) c.loop-q.invariant, kmp_shift-le P q (omega arith))

pub loop-q-preserved : goal.loop-q-preserved
loop-q-preserved c =
    let P = c.args.pattern.now in
    let q = c.loop-q.q in
    let r = c.loop-q.invariant in
    let gap = width P (omega arith) c.widest_gap-widest.ensures in
    stored P q (omega arith) r (shift-next P q _ _ _ (entry P q (omega arith) r) gap (λ h k. grind (arith, h, k)) (λ h. grind (arith, h)))

pub returns : goal.returns
returns c = (c.widest_gap-widest.ensures, max-made c.args.pattern.now c.loop-q.q (omega arith) (omega arith) c.loop-q.invariant)
