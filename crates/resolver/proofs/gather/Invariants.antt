-- `resolver::gather`: the cues so far are held, and their entries put.
use Rattle.resolver.proofs.Gathering.{Gathers}
use Rattle.resolver.proofs.gather.Given as goal

abbrev pub invariant-loop-count : goal.invariant-loop-count
invariant-loop-count l = Gathers l.choice l.book l.fn.cursor.number l.fn.cursor.place l.fn.starts l.fn.lens l.fn.ordinals l.fn.numbers l.count l.letters l.after.number l.after.place l.starts l.lens l.ordinals l.numbers
