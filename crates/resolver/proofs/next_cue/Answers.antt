-- `resolver::next_cue`: every cue of the book is read, and the book does not end before a chosen one.
use Rattle.std.proofs.Common.{ℕ, ◌+◌, arith, sym, ap, ◌∙◌}
use Rattle.std.specs.Int.{from_bool}
use Rattle.matching.proofs.Find.{number-some}
use Rattle.cues.proofs.Cues.{cue-at, title-ends}
use Rattle.resolver.proofs.Gathering.{skips-none, skips-next, skips-inside, skips-few, few-more, skips-chosen, skips-on}
use Rattle.resolver.proofs.next_cue.Goals as goal

pub loop-at-init : goal.loop-at-init
loop-at-init c = skips-none c.requires

pub unreachable-requires : goal.unreachable-requires
unreachable-requires c =
    let read = rw c.in_default.is at c.read_cue.ensures in
    omega (arith, number-some c.in_default.field-0, read.number, (skips-next c.requires c.loop-at.invariant).begun.none)

pub returns-then-chosen : goal.returns-then-chosen
returns-then-chosen c = skips-chosen c.requires c.loop-at.invariant (cue-at c.in-Ok.ensures) (sym c.chosen.ensures ∙ c.if-chosen.true)

pub overflow_add-index : goal.overflow_add-index
overflow_add-index c = omega (arith, few-more _ (skips-few c.requires c.loop-at.invariant) c.from-index.ensures)

pub loop-at-smaller : goal.loop-at-smaller
loop-at-smaller c = omega (arith, (title-ends (cue-at c.in-Ok.ensures)).1, c.loop-at-test.true)

pub loop-at-preserved : goal.loop-at-preserved
loop-at-preserved c = skips-on c.requires c.loop-at.invariant (cue-at c.in-Ok.ensures) (sym c.chosen.ensures ∙ c.if-chosen.false) (ap (λ (k : ℕ). c.loop-at.index + k) (c.from-index.ensures ∙ ap from_bool c.sees_mark.ensures))

pub unreachable-requires-2 : goal.unreachable-requires-2
unreachable-requires-2 c = skips-inside c.requires c.loop-at.invariant c.loop-at-test.false
