-- `kmp::find`: the loop's invariant is the run's progress (`matching`), with the window at s and q letters carried, and the table by its rule (`border_tables`);
-- the inner loop reaches as far from letter k + 1 on as from the first that is not carried.
use Prim.Native.Nat.{◌+◌, ◌-◌, ◌≤◌, ◌<◌}
use lib.ListN.{length}
use Rattle.matching.specs.Machine.{at}
use Rattle.matching.proofs.Letters.{Upward}
use Rattle.matching.proofs.Progress.{Looping}
use Rattle.tables.specs.Tables.{Entries}
use Rattle.border_tables.specs.Kmp.{kmp_entry}
use Rattle.kmp.specs.Kmp.{kmp}
use Rattle.kmp.proofs.find.Given as goal

abbrev pub invariant-loop-s : goal.invariant-loop-s
invariant-loop-s l =
    record {
      run : Looping kmp l.pattern l.text l.initial.list (at l.s l.q) l.total l.compared l.list;
      part : l.q < length l.pattern;
      inside : l.s ≤ length l.text + 1;
      table : Entries 0 (length l.pattern + 1) (kmp_entry l.pattern) l.scratch;
    }

abbrev pub decreases-loop-s : goal.decreases-loop-s
decreases-loop-s l = length l.text + 1 - l.s

abbrev pub invariant-loop-k : goal.invariant-loop-k
invariant-loop-k l = Upward l.pattern l.text l.s l.q (length l.pattern) l.k

abbrev pub decreases-loop-k : goal.decreases-loop-k
decreases-loop-k l = length l.pattern - l.k
