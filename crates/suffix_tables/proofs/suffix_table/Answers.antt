-- `suffix_tables::suffix_table`: an entry followed keeps to the chain, and where the chain ends is the next entry. Assumes nothing.
use Rattle.std.proofs.Common.{◌+◌, ◌-◌, length, arith}
use Rattle.tables.proofs.Tables.{made-kept_by}
use Rattle.suffix_tables.specs.Suffixes.{suffix_entry}
use Rattle.suffix_tables.proofs.Suffixes.{chain-start, chain-on, chain-ends, made-next, made-all}
use Rattle.suffix_tables.proofs.suffix_table.Goals as goal

pub returns-then-table-m : goal.returns-then-table-m
returns-then-table-m c = let P = c.args.pattern.now in made-kept_by (length P + 1) (length P + 1) (suffix_entry P) c.args.table.now (λ h k. grind (arith, c.then-table-m.either))

pub loop-t-init : goal.loop-t-init
loop-t-init c = chain-start (omega arith) c.loop-s.invariant.here

pub loop-t-preserved : goal.loop-t-preserved
loop-t-preserved c =
    let k = c.loop-t.invariant in
    chain-on (omega arith) k c.if-pattern-t.true (c.loop-s.invariant.entry c.loop-t.t (omega (arith, k.later)) (omega arith))

pub loop-s-preserved : goal.loop-s-preserved
loop-s-preserved c =
    made-next (c.loop-s.s - 1) _ (omega arith) (omega arith) c.loop-s.invariant (chain-ends c.loop-t.t (omega arith) c.loop-t.invariant (λ h. grind (arith, h)))

pub returns : goal.returns
returns c = made-all (omega arith) (omega arith) c.loop-s.invariant
