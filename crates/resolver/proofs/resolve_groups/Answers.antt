-- `resolver::resolve_groups`: a group is walked, and the walk ends where none is left or a cue has a fault.
use Rattle.std.proofs.Common.{rules, arith, ℕ, ◌≡◌, refl, ap, ◌∙◌, replicate}
use Rattle.std.specs.Prelude.{Err}
use Rattle.cue_book.specs.Reading.{read_book, cues_in}
use Rattle.outcome.proofs.Choosing.{length-for}
use Rattle.resolver.proofs.Walking.{along-first, along-begun, along-next, along-stop, along-end}
use Rattle.resolver.proofs.resolve_groups.Goals as goal

pub loop-walk-init : goal.loop-walk-init
loop-walk-init c =
    record { along = along-first c.args.job.choice c.args.job.page c.args.job.book.now c.args.job.text.now c.args.entries.now c.requires.read; room = refl; emptied = λ h. absurd (omega (arith, h)) }

pub resolve_group-requires : goal.resolve_group-requires
resolve_group-requires c =
    let i = c.loop-walk.invariant in
    let all = length-for c.args.job.choice (cues_in (read_book c.args.job.book.now)) in
    along-begun i.along (omega (arith, c.requires.number, all)) (omega (arith, c.requires.number, all, c.loop-walk-test.true)) c.requires.known c.requires.small c.requires.copied (omega (arith, i.room, c.requires.room))

pub returns-in_err-walk : goal.returns-in_err-walk
returns-in_err-walk c =
    let i = c.loop-walk.invariant in
    let is : c.from_residual.result ≡ Err c.in_err-walk.field-0.0 = search rules in
    rw is (along-stop i.along c.in_err-walk.ensures refl (c.in_err-walk.ensures.group.emptied ∙ ap (λ (n : ℕ). replicate n 0) i.room))

pub loop-walk-smaller : goal.loop-walk-smaller
loop-walk-smaller c = omega (arith, c.loop-walk-test.true, (along-next c.loop-walk.invariant.along c.in_ok-walk.ensures).1)

pub loop-walk-preserved : goal.loop-walk-preserved
loop-walk-preserved c =
    let i = c.loop-walk.invariant in
    let g = c.in_ok-walk.ensures in
    record { along = (along-next i.along g).0; room = c.resolve_group.auto.scratch ∙ i.room; emptied = λ h. g.group.emptied ∙ ap (λ (n : ℕ). replicate n 0) i.room }

pub returns : goal.returns
returns c =
    let i = c.loop-walk.invariant in
    let all = length-for c.args.job.choice (cues_in (read_book c.args.job.book.now)) in
    along-end i.along refl (omega (arith, c.requires.number, all, c.loop-walk-test.false)) (i.emptied (omega (arith, c.loop-walk-test.false, c.requires.some)))
