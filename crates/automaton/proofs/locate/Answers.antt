-- `automaton::locate`: the group is accepted, the automaton stands in the scratch, and the numbers of the walk by it are those at the text's letters.
use Rattle.std.proofs.Common.{rules, arith, ap, ◌∙◌, replicate}
use Rattle.automaton.proofs.Accepting.{accepted_fits, accepted_finished, accepted_ahead, accepted_answer}
use Rattle.automaton.proofs.locate.Goals as goal

pub build-n-requires : goal.build-n-requires
build-n-requires c = accepted_fits (c.if-not-accepted.ensures.0 (search rules)) _ c.all_folded-folds.ensures (λ i. omega (arith, c.type_inv.book i))

pub finish-shape-requires : goal.finish-shape-requires
finish-shape-requires c = accepted_finished (c.if-not-accepted.ensures.0 (search rules)) _ c.all_folded-folds.ensures (λ i. omega (arith, c.type_inv.book i)) c.build-n.ensures c.build-n.auto.t

pub walk-reads-requires : goal.walk-reads-requires
walk-reads-requires c = accepted_ahead (c.if-not-accepted.ensures.0 (search rules)) _ c.all_folded-folds.ensures (λ i. omega (arith, c.type_inv.book i)) c.build-n.ensures c.finish-shape.ensures

pub returns : goal.returns
returns c =
    accepted_answer (c.if-not-accepted.ensures.0 (search rules)) _ c.all_folded-folds.ensures (λ i. omega (arith, c.type_inv.book i)) c.build-n.ensures c.finish-shape.ensures (λ i. omega (arith, c.type_inv.text i)) c.walk-reads.ensures
    (c.set_all.ensures ∙ ap (λ n. replicate n 0) (c.finish-shape.auto.t ∙ c.build-n.auto.t))
