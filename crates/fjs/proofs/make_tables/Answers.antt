-- `fjs::make_tables`: two makers, each lent its own part of the scratch. Assumes nothing.
use Rattle.std.proofs.Common.{◌+◌, length, arith, sym, ◌∙◌}
use lib.Seq.{length-take-le}
use Rattle.letter_tables.specs.BadCharacter.{sunday_entry}
use Rattle.border_tables.specs.Kmp.{kmp_entry}
use Rattle.tables.proofs.Tables.{made-front, made-part, both-received}
use Rattle.fjs.proofs.make_tables.Goals as goal

pub slice_bounds-sunday_table-end-2 : goal.slice_bounds-sunday_table-end-2
slice_bounds-sunday_table-end-2 c = sym (length-take-le 256 c.args.scratch.now (omega arith))

pub returns : goal.returns
returns c =
    let P = c.args.pattern.now in
    let scratch = c.args.scratch.now in
    let m = length P in
    made-part (m + 1) m 256 (m + 1) (sunday_entry P) (kmp_entry P) scratch (omega arith) (omega arith) (omega arith)
    (made-front (m + 1) 256 (sunday_entry P) scratch (omega arith) (omega arith) c.sunday_table.ensures) c.kmp_table.ensures
    ∙ sym (both-received 256 (m + 1) (sunday_entry P) (kmp_entry P) scratch (omega arith))
