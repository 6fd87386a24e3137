-- The number's field fits four bytes, and its digits stand there from the second on. Assumes nothing.
use Rattle.std.proofs.Common.{arith, sym}
use Rattle.page_table.proofs.Digits.{few, end_is, digits}
use Rattle.page_table.proofs.put_digits.Goals as goal

pub slice_bounds-put_bytes-count : goal.slice_bounds-put_bytes-count
slice_bounds-put_bytes-count c = omega (arith, end_is (omega arith) c.put_number-end.ensures)

pub slice_bounds-put_bytes-start : goal.slice_bounds-put_bytes-start
slice_bounds-put_bytes-start c = omega (arith, end_is (omega arith) c.put_number-end.ensures)

pub slice_bounds-put_bytes-end : goal.slice_bounds-put_bytes-end
slice_bounds-put_bytes-end c = omega (arith, end_is (omega arith) c.put_number-end.ensures, few (omega arith) c.put_number-end.ensures)

pub returns : goal.returns
returns c = rw (sym (digits (omega arith) c.put_number-end.ensures)) c.put_bytes.ensures
