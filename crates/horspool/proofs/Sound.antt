-- Horspool's steps are right at every window, by the law of its table. Assumes nothing.
use Prim.Native.Nat.{ℕ, ◌≤◌}
use native.Mathlib.Omega.{arith}
use mathlib.Core.List.{List}
use lib.ListN.{length}
use Rattle.matching.proofs.Machine.{Sound, right-down}
use Rattle.letter_tables.proofs.Moves.{horspool-moves}
use Rattle.horspool.specs.Horspool.{window}

pub sound : (P T : List ℕ) → 1 ≤ length P → Sound window P T
unfolding window
sound P T h = record { some = h; right = λ s q inside _. right-down inside (horspool-moves P T s h) h (length P) (omega arith) (λ i l b. absurd (omega arith)) }
