-- `Automaton::fail_of`: below the root the fail link is the root, and elsewhere the state that the parent's fail link goes to.
use Rattle.tries.proofs.Linking.{failed-root, link-below, failed-step}
use Rattle.tries.proofs.Steps.{state-leads}
use Rattle.automaton.proofs.Automaton.fail_of.Goals as goal

pub returns-then-parent-eq0-clause-failed : goal.returns-then-parent-eq0-clause-failed
returns-then-parent-eq0-clause-failed c = λ ps names l _ h. failed-root l c.requires.above h c.if-parent-eq0.true

pub returns-clause-failed : goal.returns-clause-failed
returns-clause-failed c = λ ps names l rows h.
    let p = c.requires in
    let left = c.if-parent-eq0.false in
    failed-step l p.above h left (rw c.row_step.ensures (state-leads _ l.linked p.some rows (link-below l p.above h left) p.byte))
