-- `resolver::find_group`: the automaton takes the gathered cues as they stand in the book, and what it leaves tells of each.
use Rattle.std.proofs.Common.{arith, drop}
use lib.Seq.{length-take-le}
use Rattle.resolver.proofs.Searching.{few-held, walked, searched}
use Rattle.resolver.proofs.find_group.Goals as goal

pub unreachable-requires : goal.unreachable-requires
unreachable-requires c =
    let n = c.gather-cues.result.count in
    let room = length-take-le n c.args.places.now (omega (arith, few-held c.requires c.gather-cues.ensures, c.requires.places-room)) in
    walked c.requires c.gather-cues.ensures room (rw c.in_default.is at c.locate-walked.ensures)

pub returns : goal.returns
returns c =
    let n = c.gather-cues.result.count in
    let room = length-take-le n c.args.places.now (omega (arith, few-held c.requires c.gather-cues.ensures, c.requires.places-room)) in
    searched c.requires c.gather-cues.ensures room c.in-Some.ensures (drop n c.gather-cues.new.ordinals) (drop n c.args.places.now)
