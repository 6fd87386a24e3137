-- `resolver::put_group`: a cue that passes is put, and the first one that does not is the fault.
use Rattle.std.proofs.Common.{rules, arith, ◌≡◌, sym, refl, get_or}
use Rattle.std.specs.Prelude.{Ok, Err}
use Rattle.resolver.proofs.Putting.{puts_none, puts-end, puts-stop, puts-next}
use Rattle.resolver.proofs.put_group.Goals as goal

pub loop-count-init : goal.loop-count-init
loop-count-init c = record { puts = puts_none c.args.text.now c.args.index c.args.left.now c.args.places.now c.args.known.place c.args.entries.now; spot = c.requires.spot }

pub returns-in_err-map_err : goal.returns-in_err-map_err
returns-in_err-map_err c =
    let is : c.from_residual.result ≡ Err c.in_err-map_err.field-0.0 = search rules in
    let was : c.cue_refused.result ≡ Err c.in_err-map_err.field-0.0.refusal = search rules in
    let named : c.in_err-map_err.field-0.0.number ≡ get_or c.args.numbers.now c.loop-count.count 0 = search rules in
    rw is (puts-stop c.loop-count.invariant.puts c.loop-count-test.true c.requires.places-are (rw was at c.cue_refused.ensures) named)

pub loop-count-preserved : goal.loop-count-preserved
loop-count-preserved c =
    let was : c.cue_refused.result ≡ Ok _ = search rules in
    let told = rw was at c.cue_refused.ensures in
    rw c.put_entries-last.ensures.spot (record { puts = puts-next c.loop-count.invariant.puts c.loop-count-test.true c.requires.places-are (sym told) c.put_entries-last.ensures.put; spot = refl })

pub returns : goal.returns
returns c = puts-end c.loop-count.invariant.puts (omega (arith, c.loop-count-test.false)) c.loop-count.invariant.spot
