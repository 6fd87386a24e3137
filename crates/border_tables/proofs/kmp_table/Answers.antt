-- `border_tables::kmp_table`: an entry followed keeps to the chain, and where the chain ends is the next entry, or the entry of that place. Assumes nothing.
use Rattle.std.proofs.Common.{◌≡◌, ℕ, ◌+◌, ◌-◌, ◌≤◌, List, length, get_or, arith, add-one}
use Rattle.tables.proofs.Tables.{Ruled, ruled-none, ruled-next, ruled-made, made-kept_by}
use Rattle.border_tables.specs.Kmp.{kmp_entry}
use Rattle.border_tables.proofs.Kmp.{kmp_entry-le, Chain, Longest, chain-start, longest-chain, chain-on, chain-ends, entry-next}
use Rattle.border_tables.proofs.kmp_table.Goals as goal

pub returns-then-table-m : goal.returns-then-table-m
returns-then-table-m c = let P = c.args.pattern.now in made-kept_by (length P) (length P + 1) (kmp_entry P) c.args.table.now (λ h k. grind (arith, c.then-table-m.either))

pub loop-q-init : goal.loop-q-init
loop-q-init c =
    let P = c.args.pattern.now in
    record { ruled = ruled-next {n = 0} (omega arith) (ruled-none (kmp_entry P) c.args.table.now) 0 (omega (arith, kmp_entry-le P 0)); chain = chain-start P }

-- b[j] stands at j - 1
entry : {P t₀ t : List ℕ} (q j : ℕ) → Ruled (q + 1) (kmp_entry P) t₀ t → Chain P q j → 1 ≤ j → get_or t (j - 1) 0 ≡ kmp_entry P (j - 1)
entry q j r c h = r.entry (j - 1) (omega (arith, c.low))

pub loop-j-smaller : goal.loop-j-smaller
loop-j-smaller c = let j = c.loop-j.j in omega (arith, entry c.loop-q.q j c.loop-q.invariant.ruled c.loop-j.invariant (omega arith), kmp_entry-le c.args.pattern.now (j - 1))

pub loop-j-preserved : goal.loop-j-preserved
loop-j-preserved c =
    let q = c.loop-q.q in
    let j = c.loop-j.j in
    let k = c.loop-j.invariant in
    rw (entry q j c.loop-q.invariant.ruled k (omega arith)) (chain-on c.args.pattern.now q j (omega arith) (omega arith) k c.if-pattern-j.true)

pub loop-q-preserved : goal.loop-q-preserved
loop-q-preserved c =
    let P = c.args.pattern.now in
    let q = c.loop-q.q in
    let j = c.loop-j.j in
    let r = c.loop-q.invariant.ruled in
    let w : Longest P (q + 1) (j + 1) = rw (add-one q, add-one j) (chain-ends P q j c.loop-j.invariant (λ h. grind (arith, h))) in
    let b = r.entry (j + 1 - 1) (omega (arith, w.low)) in
    record {
      ruled = rw (add-one (q + 1)) (ruled-next (omega (arith, r.long)) r _ (entry-next P (q + 1) (j + 1) _ _ w (omega arith) (omega arith) b (λ l s. grind (arith, s)) (λ d. grind (arith, d))));
      chain = longest-chain w;
    }

pub returns : goal.returns
returns c =
    let P = c.args.pattern.now in
    let done : length P + 1 ≡ c.loop-q.q + 1 = omega arith in
    rw done (ruled-made (length P) (omega arith) c.loop-q.invariant.ruled)
