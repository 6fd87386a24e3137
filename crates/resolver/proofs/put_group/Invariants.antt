-- `resolver::put_group`: what is still to be put makes the entries, the fault and the last place what they are to be, and line and column are those of the last place.
use Rattle.std.proofs.Common.{◌≡◌}
use Rattle.line_column.specs.LineColumn.{line_column}
use Rattle.resolver.proofs.Putting.{Puts}
use Rattle.resolver.proofs.put_group.Given as goal

abbrev pub invariant-loop-count : goal.invariant-loop-count
invariant-loop-count l =
    record {
      puts : Puts l.text l.index l.left l.places l.fn.known.place l.fn.entries l.count l.last.place l.entries;
      spot : l.last.at ≡ line_column l.text l.last.place;
    }
