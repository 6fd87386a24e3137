-- `automaton::link`: a state gets its link and joined bits, and one of the first also its row.
use Rattle.std.proofs.Common.{arith}
use Rattle.automaton.proofs.Linking.{passing_first, passing_next, passing_join, passing_base, passing_overlay, passing_linked, passing_rowed, passing_done}
use Rattle.automaton.proofs.link.Goals as goal
use Rattle.automaton.proofs.link.Goals.{then-x-shape, else-x-shape}

pub loop-x-init : goal.loop-x-init
loop-x-init c = passing_first c.requires

pub fail_of-f-requires : goal.fail_of-f-requires
fail_of-f-requires c = passing_next c.requires c.loop-x.invariant (omega arith) c.loop-x-test.true c.min-count.ensures

pub join-requires : goal.join-requires
join-requires c = passing_join c.requires c.loop-x.invariant (omega arith) c.loop-x-test.true c.min-count.ensures c.fail_of-f.ensures.failed

pub base_row-requires : goal.base_row-requires
base_row-requires c =
    let f = c.fail_of-f.ensures in
    passing_base c.requires c.loop-x.invariant (omega arith) c.loop-x-test.true c.min-count.ensures f.failed c.join.ensures f.words c.if-x-shape.true

pub overlay-requires : goal.overlay-requires
overlay-requires c =
    let f = c.fail_of-f.ensures in
    passing_overlay c.requires c.loop-x.invariant (omega arith) c.loop-x-test.true c.min-count.ensures f.failed c.join.ensures f.words c.if-x-shape.true c.base_row.ensures

pub loop-x-preserved : goal.loop-x-preserved
loop-x-preserved c =
    let f = c.fail_of-f.ensures in
    elim c.if-x-shape.branch [
      | then-x-shape w ↦ rw w.t-is (passing_rowed c.requires c.loop-x.invariant (omega arith) c.loop-x-test.true c.min-count.ensures f.failed c.join.ensures f.words w.if-x-shape.true w.base_row.ensures w.overlay.auto.t w.overlay.ensures)
      | else-x-shape w ↦ rw w.t-is (passing_linked c.requires c.loop-x.invariant (omega arith) c.loop-x-test.true c.min-count.ensures f.failed c.join.ensures f.words w.if-x-shape.false)
    ]

pub returns : goal.returns
returns c = passing_done c.requires c.loop-x.invariant c.loop-x-test.false c.loop-x.auto.x-end
