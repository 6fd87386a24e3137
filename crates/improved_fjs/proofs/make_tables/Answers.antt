-- `improved_fjs::make_tables`: two makers, each lent its own part of the scratch. Assumes nothing.
use Rattle.std.proofs.Common.{◌+◌, length, arith, sym, ◌∙◌}
use lib.Seq.{length-take-le}
use Rattle.letter_tables.specs.BadCharacter.{sunday_entry}
use Rattle.letter_tables.proofs.Gaps.{found-widest}
use Rattle.border_tables.specs.MaxShift.{border_tables}
use Rattle.border_tables.proofs.MaxShift.{border_tables-length}
use Rattle.tables.proofs.Tables.{made-front, made-rest, rest-received}
use Rattle.improved_fjs.proofs.make_tables.Goals as goal

pub slice_bounds-sunday_table-end-2 : goal.slice_bounds-sunday_table-end-2
slice_bounds-sunday_table-end-2 c = sym (length-take-le 256 c.args.scratch.now (omega arith))

pub returns-clause-gap : goal.returns-clause-gap
returns-clause-gap c = c.max_shift_table.ensures.0 ∙ found-widest c.args.pattern.now (omega arith)

pub returns-clause-made : goal.returns-clause-made
returns-clause-made c =
    let P = c.args.pattern.now in
    let scratch = c.args.scratch.now in
    let m = length P in
    let size = border_tables-length P in
    made-rest (m + 1) m 256 (sunday_entry P) (border_tables P) scratch (omega arith) (omega arith) (omega arith)
    (made-front (m + 1) 256 (sunday_entry P) scratch (omega arith) (omega arith) c.sunday_table.ensures) c.max_shift_table.ensures.1
    ∙ sym (rest-received 256 (sunday_entry P) (border_tables P) scratch (omega arith))
