-- `fjs::find_moves`: the tables are made, and the search finds all, noting the moves. Assumes nothing.
use Rattle.std.proofs.Common.{arith, refl, rules}
use Rattle.matching.proofs.Progress.{Accepted, accepted-ok}
use Rattle.fjs_steps.specs.Fjs.{fjs}
use Rattle.fjs.proofs.Ready.{ready, found-bounded}
use Rattle.fjs.proofs.Listed.{same_list, listed}
use Rattle.fjs.proofs.find_moves.Goals as goal

pub search-tally-requires-clause-ready : goal.search-tally-requires-clause-ready
search-tally-requires-clause-ready c = ready c.prepare.ensures.made (accepted-ok c.in_ok-prepare.ensures.refused)

pub overflow_cast-result : goal.overflow_cast-result
overflow_cast-result c =
    let ok : Accepted fjs c.args.pattern.now c.args.text.now c.args.scratch.now = accepted-ok c.in_ok-prepare.ensures.refused in
    omega (arith, ok.limits.small, c.search-tally.ensures.few)

pub returns-clause-bounded : goal.returns-clause-bounded
returns-clause-bounded c = found-bounded (accepted-ok {scratch = c.args.scratch.now} c.in_ok-prepare.ensures.refused) c.search-tally.ensures.searched

pub returns-clause-moved : goal.returns-clause-moved
returns-clause-moved c =
    let same = same_list _ _ c.search-tally.ensures.told refl in
    listed c.args.pattern.now c.args.text.now _ (accepted-ok c.in_ok-prepare.ensures.refused) c.search-tally.ensures.told refl (search (rules, same)) refl
