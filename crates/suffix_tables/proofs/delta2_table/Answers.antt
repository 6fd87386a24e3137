-- `suffix_tables::delta2_table`: the borders of the suffixes, then the entries by the whole pattern's borders, then all others. Assumes nothing.
use Rattle.std.proofs.Common.{◌≡◌, ℕ, suc, ◌+◌, ◌-◌, ◌*◌, ◌≤◌, ◌<◌, List, length, arith, sym, ◌∙◌}
use Rattle.tables.specs.Tables.{Entries}
use Rattle.tables.proofs.Tables.{filled, made_by}
use Rattle.suffix_tables.specs.Suffixes.{suffix_entry, suffix_made}
use Rattle.suffix_tables.specs.Delta2.{delta2_entry}
use Rattle.suffix_tables.proofs.Delta2.{delta2-none, delta2-made, delta2-kept, borders-kept, borders-made}
use Rattle.suffix_tables.proofs.Passes.{settled-anew, settled-since, settled_is}
use Rattle.suffix_tables.proofs.delta2_table.Goals as goal

pub returns-then-table-m : goal.returns-then-table-m
returns-then-table-m c =
    let a = c.args in
    (borders-kept a.pattern.now (length a.table.now) a.borders.now (λ h k. grind (arith, c.then-table-m.either)), delta2-kept a.pattern.now (length a.borders.now) a.table.now (λ h k. grind (arith, c.then-table-m.either)))

pub returns-then-borders-m : goal.returns-then-borders-m
returns-then-borders-m c =
    let a = c.args in
    (c.suffix_table.ensures ∙ sym (borders-made a.pattern.now (length a.table.now) a.borders.now (omega arith) (omega arith)), delta2-none a.pattern.now (length a.borders.now) a.table.now (omega arith))

-- the borders have room, and are made
bordered : (P borders : List ℕ) {borders' : List ℕ} → length P < length borders → length P ≤ 32768 → borders' ≡ suffix_made P borders → Entries 0 (length P + 1) (suffix_entry P) borders'
bordered P borders h l e = (filled (length P + 1) (length P + 1) (suffix_entry P) (omega arith) (omega arith) e).entries

pub prefix_entries-requires : goal.prefix_entries-requires
prefix_entries-requires c = (bordered c.args.pattern.now c.args.borders.now (omega arith) (omega arith) c.suffix_table.ensures, (omega arith, omega arith))

pub suffix_entries-requires : goal.suffix_entries-requires
suffix_entries-requires c = (bordered c.args.pattern.now c.args.borders.now (omega arith) (omega arith) c.suffix_table.ensures, (settled-anew c.prefix_entries.ensures, omega arith))

pub returns : goal.returns
returns c =
    let a = c.args in
    let P = a.pattern.now in
    let m = length P in
    let left = delta2-made P (length a.borders.now) a.table.now (omega arith) ∙ made_by (2 * m - 1) m (λ q. delta2_entry P (suc q)) a.table.now (omega arith) (omega arith) in
    (c.suffix_table.ensures ∙ sym (borders-made P (length a.table.now) a.borders.now (omega arith) (omega arith)), settled_is (settled-since c.prefix_entries.ensures.held c.suffix_entries.ensures) ∙ sym left)
