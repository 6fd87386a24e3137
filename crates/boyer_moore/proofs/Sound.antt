-- Boyer-Moore's steps are right at every window, by the law of its moves. Assumes nothing.
use Prim.Native.Nat.{ℕ, ◌≤◌}
use native.Mathlib.Omega.{arith}
use mathlib.Core.List.{List}
use lib.ListN.{length}
use Rattle.matching.proofs.Machine.{Sound, right-down}
use Rattle.boyer_moore.specs.BoyerMoore.{window}
use Rattle.boyer_moore.proofs.Moves.{boyer-moore-moves}

pub sound : (P T : List ℕ) → 1 ≤ length P → Sound window P T
unfolding window
sound P T h = record { some = h; right = λ s q inside _. right-down inside (boyer-moore-moves P T s h inside) h (length P) (omega arith) (λ i l b. absurd (omega arith)) }
