-- `automaton::base_row`: the row of a state's fail link is copied, entry by entry.
use Rattle.std.proofs.Common.{◌+◌, ◌*◌, refl, arith}
use Rattle.tries.specs.Tables.{fail_at}
use Rattle.tries.specs.Rows.{base}
use Rattle.tries.proofs.Puts.{put_next, put_all, put_as}
use Rattle.tries.proofs.Rows.{row_before}
use Rattle.automaton.proofs.Entries.{based}
use Rattle.automaton.proofs.base_row.Goals as goal

pub loop-k-preserved : goal.loop-k-preserved
loop-k-preserved c =
    let t = c.args.t.now in
    let p = c.loop-k.invariant in
    let before = row_before c.args.w (fail_at t c.args.s) c.args.s (c.requires.1.1 (omega (arith, c.if-s-eq0.false))) in
    put_next p (omega (arith, c.requires.0)) _ (p.outside (33032 + c.args.w * fail_at t c.args.s + c.loop-k.k) (λ a e. omega (arith, before)))

pub returns-after-loop-k : goal.returns-after-loop-k
returns-after-loop-k c =
    let t = c.args.t.now in
    put_as _ (base t c.args.w c.args.s) refl (λ k _. based t c.args.w c.args.s k c.if-s-eq0.false) (put_all _ c.loop-k.invariant (omega arith) (omega arith))
