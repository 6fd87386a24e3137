-- Sunday's steps are right at every window, by the law of its table. Assumes nothing.
use Prim.Native.Nat.{ℕ, ◌≤◌}
use mathlib.Core.List.{List}
use lib.ListN.{length}
use Rattle.matching.proofs.Machine.{carries-none, Sound, right-up}
use Rattle.letter_tables.proofs.Moves.{sunday-moves}
use Rattle.sunday.specs.Sunday.{window}

pub sound : (P T : List ℕ) → 1 ≤ length P → Sound window P T
unfolding window
sound P T h = record { some = h; right = λ s q inside _. right-up inside (sunday-moves P T s h) (carries-none P T s h) }
