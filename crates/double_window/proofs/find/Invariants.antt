-- `double_window::find`: the loop's invariant is the run's progress (`matching`), with the window at s, and the table by its rule (`letter_tables`).
use Prim.Native.Nat.{◌+◌, ◌-◌, ◌≤◌}
use lib.ListN.{length}
use Rattle.matching.specs.Machine.{at}
use Rattle.matching.proofs.Progress.{Looping}
use Rattle.tables.specs.Tables.{Entries}
use Rattle.letter_tables.specs.BadCharacter.{horspool_entry}
use Rattle.double_window.specs.DoubleWindow.{double_window}
use Rattle.double_window.proofs.find.Given as goal

abbrev pub invariant-loop-s : goal.invariant-loop-s
invariant-loop-s l =
    record {
      run : Looping double_window l.pattern l.text l.initial.list (at l.s 0) l.total l.compared l.list;
      inside : l.s ≤ length l.text;
      table : Entries 0 256 (horspool_entry l.pattern) l.scratch;
    }

abbrev pub decreases-loop-s : goal.decreases-loop-s
decreases-loop-s l = length l.text + 1 - l.s
