-- `Phrases::grow_level`: a phrase that has letter d goes on by it, and another one stays where it is.
use Rattle.std.proofs.Common.{◌<◌, length, arith}
use Rattle.automaton.specs.Words.{words}
use Rattle.tries.proofs.Levels.{level-on}
use Rattle.automaton.proofs.Levels.{words-count, letter_room, letter_next, letter_over}
use Rattle.automaton.proofs.Phrases.grow_level.Goals as goal
use Rattle.automaton.proofs.Phrases.grow_level.Goals.{in-Some, in_default}

pub extend-x-requires : goal.extend-x-requires
extend-x-requires c = letter_room c.loop-i.invariant (omega (arith, words-count c.args.self)) c.in-Some.ensures

pub loop-i-preserved : goal.loop-i-preserved
loop-i-preserved c =
    let l : c.loop-i.i < length (words c.args.self) = omega (arith, words-count c.args.self) in
    elim c.match-letter.branch [
      | in-Some w ↦ let m = w.max-count.ensures in rw (w.t-is, w.at-is, w.count-is, m) (letter_next c.loop-i.invariant l w.in-Some.ensures w.extend-x.ensures)
      | in_default w ↦ rw (w.t-is, w.at-is, w.count-is) (letter_over c.loop-i.invariant l w.in_default.ensures)
    ]

pub returns : goal.returns
returns c = level-on c.loop-i.invariant (omega (arith, words-count c.args.self)) (omega (arith, words-count c.args.self))
