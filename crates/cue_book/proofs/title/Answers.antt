-- The part that is placed lies in the book. Assumes nothing.
use Rattle.std.proofs.Common.{arith}
use Rattle.cue_book.proofs.Books.{placed-inside}
use Rattle.cue_book.proofs.title.Goals as goal

pub overflow_add-result : goal.overflow_add-result
overflow_add-result c = omega (arith, placed-inside c.title_part-part.ensures)

pub slice_bounds-result-end : goal.slice_bounds-result-end
slice_bounds-result-end c = omega (arith, placed-inside c.title_part-part.ensures)
