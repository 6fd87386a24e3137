-- The table is that of page 15's rule, which the checker computes over the whole of it, so each entry is what its letter folds to.
use Rattle.std.proofs.Common.{arith}
use Rattle.tables.specs.Tables.{tabulate}
use Rattle.tables.proofs.Tables.{get_d_tabulate}
use Rattle.fold.specs.Fold.{folded15}
use Rattle.fold.proofs.on_page_15.Goals as goal

pub returns : goal.returns
unfolding tabulate folded15
returns c = get_d_tabulate 256 folded15 c.args.byte (omega arith)
