-- What is printed fits the array, which is more than long enough, so all of it is printed. Assumes nothing.
use Rattle.std.proofs.Common.{ℕ, arith, length-take}
use Rattle.page_table.proofs.Laying.{all-inside}
use Rattle.page_table.proofs.main.Goals as goal

pub slice_bounds-output-end : goal.slice_bounds-output-end
slice_bounds-output-end c = all-inside c.put_entries-length.ensures

pub slice_bounds-write_all-end : goal.slice_bounds-write_all-end
slice_bounds-write_all-end c = let inside = all-inside c.put_entries-length.ensures in omega (arith, length-take {A = ℕ}, inside)
