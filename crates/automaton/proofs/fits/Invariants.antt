-- `automaton::fits`: the phrases so far stand in the book and leave room for so many letters, whatever a letter folds to.
use Rattle.std.proofs.Common.{ℕ, length}
use Rattle.automaton.proofs.Fitting.{Fitting}
use Rattle.automaton.proofs.fits.Given as goal

abbrev pub invariant-loop-start : goal.invariant-loop-start
invariant-loop-start l = (f : ℕ → ℕ) → Fitting f l.book l.starts l.lens l.room (length l.yielded)
