-- `suffix_tables::prefix_entries`: past q, k is itself, or the next place after it, and gives the entry of q. Assumes nothing.
use Rattle.std.proofs.Common.{arith, add-one}
use Rattle.suffix_tables.proofs.Passes.{front-next, front-settled}
use Rattle.suffix_tables.proofs.prefix_entries.Goals as goal

pub loop-q-preserved : goal.loop-q-preserved
loop-q-preserved c =
    let q = c.loop-q.q in
    let i = c.loop-q.invariant in
    let f = front-next c.args.pattern.now q c.loop-q.k c.if-k-q.k (omega arith) c.requires.0 (λ h. grind (arith, h)) (λ h. grind (arith, h)) i.front in
    rw (add-one q) (record { front = f; settled = front-settled _ (omega arith) f (omega arith) i.settled })

pub overflow_cast-table : goal.overflow_cast-table
overflow_cast-table c = omega (arith, front-next c.args.pattern.now c.loop-q.q c.loop-q.k c.if-k-q.k (omega arith) c.requires.0 (λ h. grind (arith, h)) (λ h. grind (arith, h)) c.loop-q.invariant.front)
