-- `fjs::find`: the tables are made, and the search finds all, within demand 3's bound. Assumes nothing.
use Rattle.matching.proofs.Progress.{accepted-ok}
use Rattle.fjs.proofs.Ready.{ready, found-bounded}
use Rattle.fjs.proofs.find.Goals as goal

pub search-requires-clause-ready : goal.search-requires-clause-ready
search-requires-clause-ready c = ready c.prepare.ensures.made (accepted-ok c.in_ok-prepare.ensures.refused)

pub returns-clause-bounded : goal.returns-clause-bounded
returns-clause-bounded c = found-bounded (accepted-ok {scratch = c.args.scratch.now} c.in_ok-prepare.ensures.refused) c.search.ensures.searched
