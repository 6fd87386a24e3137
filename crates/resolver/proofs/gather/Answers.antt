-- `resolver::gather`: a cue that fits is held, and one that does not ends the group.
use Rattle.std.proofs.Common.{rules, arith, ◌≡◌, ◌+◌, ◌-◌, refl, true, false}
use Rattle.outcome.specs.Outcome.{fitting}
use Rattle.resolver.proofs.Gathering.{gathers-none, gathered-all, gathered-full, gathers-next}
use Rattle.resolver.proofs.gather.Goals as goal

pub loop-count-init : goal.loop-count-init
loop-count-init c = gathers-none c.requires.remaining

pub returns-then-not-group_fits : goal.returns-then-not-group_fits
returns-then-not-group_fits c =
    let full : fitting (c.loop-count.count + 1) (c.loop-count.letters + (c.next_cue-cue.result.phrase.end - c.next_cue-cue.result.phrase.start)) ≡ false = search rules in
    gathered-full c.loop-count.invariant c.requires c.next_cue-cue.ensures full

pub loop-count-preserved : goal.loop-count-preserved
loop-count-preserved c =
    let fits : fitting (c.loop-count.count + 1) (c.loop-count.letters + (c.next_cue-cue.result.phrase.end - c.next_cue-cue.result.phrase.start)) ≡ true = search rules in
    gathers-next c.loop-count.invariant c.requires c.next_cue-cue.ensures refl fits

pub returns : goal.returns
returns c = gathered-all c.loop-count.invariant c.requires (omega (arith, c.loop-count-test.false, c.loop-count.auto.count-end))
