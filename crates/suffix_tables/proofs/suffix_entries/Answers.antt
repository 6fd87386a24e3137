-- `suffix_tables::suffix_entries`: the inner loop's walk, from the next place of r + 1 on past the next place of r. Assumes nothing.
use Rattle.std.proofs.Common.{suc, arith, refl, add-one}
use Rattle.suffix_tables.proofs.Suffixes.{suffix-reads}
use Rattle.suffix_tables.proofs.Passes.{walk_start, walk-next, walk_ends}
use Rattle.suffix_tables.proofs.suffix_entries.Goals as goal

pub loop-t-init : goal.loop-t-init
loop-t-init c =
    let P = c.args.pattern.now in
    let r = c.loop-r.r in
    record {
      inside = (suffix-reads P r c.requires.0 (omega arith)).inside (omega arith);
      walk = walk_start (rw add-one (suffix-reads P (suc r) c.requires.0 (omega arith))) c.loop-r.invariant;
    }

pub loop-t-preserved : goal.loop-t-preserved
loop-t-preserved c =
    let P = c.args.pattern.now in
    let t = c.loop-t.t in
    let i = c.loop-t.invariant in
    record {
      inside = i.inside;
      walk = walk-next _ t _ _ (omega arith) (omega arith) (suffix-reads P c.loop-r.r c.requires.0 (omega arith)) (suffix-reads P t c.requires.0 (omega arith)) refl i.walk;
    }

pub loop-t-smaller : goal.loop-t-smaller
loop-t-smaller c = omega (arith, suffix-reads c.args.pattern.now c.loop-t.t c.requires.0 (omega arith))

pub loop-r-preserved : goal.loop-r-preserved
loop-r-preserved c = rw add-one (walk_ends (suffix-reads c.args.pattern.now c.loop-r.r c.requires.0 (omega arith)) (omega arith) (omega arith) c.loop-t.invariant.walk)
