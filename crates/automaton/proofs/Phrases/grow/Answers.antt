-- `Phrases::grow`: the root alone, and then a level after another.
use Rattle.std.proofs.Common.{arith}
use Rattle.automaton.proofs.Levels.{grows_root, grows_done}
use Rattle.automaton.proofs.Phrases.grow.Goals as goal

pub loop-d-init : goal.loop-d-init
loop-d-init c = grows_root c.args.self c.requires (c.fill.ensures.after (λ y e. e))

pub returns : goal.returns
returns c = grows_done c.args.self c.loop-d.invariant c.longest-d-end.ensures (omega arith)
