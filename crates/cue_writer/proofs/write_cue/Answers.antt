-- A cue that is not refused is valid and fits, and is laid out field by field, its dates and its mark last. Assumes nothing.
use Rattle.std.proofs.Common.{arith, sym}
use Rattle.cue_writer.proofs.Writing.{fitting, fitting-length, laid-fields, laid-cue, written-whole}
use Rattle.cue_writer.proofs.write_cue.Goals as goal

pub overflow_cast-ordinal : goal.overflow_cast-ordinal
overflow_cast-ordinal c = omega (arith, (fitting _ _ _ (sym c.in_ok-write_refused.ensures)).valid.small)

pub put_field-at-requires : goal.put_field-at-requires
put_field-at-requires c = omega (arith, (fitting _ _ _ (sym c.in_ok-write_refused.ensures)).valid.short)

pub put_field-at-requires-3 : goal.put_field-at-requires-3
put_field-at-requires-3 c = omega (arith, (fitting _ _ _ (sym c.in_ok-write_refused.ensures)).valid.shown)

pub put_dates-at-requires : goal.put_dates-at-requires
put_dates-at-requires c = omega (arith, (fitting _ _ _ (sym c.in_ok-write_refused.ensures)).valid.dated)

pub overflow_cast-result : goal.overflow_cast-result
overflow_cast-result c =
    let fit = fitting _ _ _ (sym c.in_ok-write_refused.ensures) in
    let laid = laid-fields _ c.args.buffer.now fit.valid.small c.to_be_bytes-number.ensures c.put_field-at.ensures c.put_field-at-2.ensures c.put_field-at-3.ensures c.put_dates-at.ensures c.put_mark-at.ensures in
    omega (arith, (laid-cue _ c.args.buffer.now fit.fits laid).0, fitting-length fit)

pub returns : goal.returns
returns c =
    let none = sym c.in_ok-write_refused.ensures in
    let small = (fitting _ _ _ none).valid.small in
    written-whole none (laid-fields _ c.args.buffer.now small c.to_be_bytes-number.ensures c.put_field-at.ensures c.put_field-at-2.ensures c.put_field-at-3.ensures c.put_dates-at.ensures c.put_mark-at.ensures)
