-- The naive steps are right at every window: a move by 1 passes over nothing. Assumes nothing.
use Prim.Native.Nat.{ℕ, ◌+◌, ◌≤◌}
use native.Mathlib.Omega.{arith}
use mathlib.Core.List.{List}
use lib.ListN.{length}
use Rattle.matching.proofs.Machine.{carries-none, Sound, right-up}
use Rattle.naive.specs.Naive.{window}

pub sound : (P T : List ℕ) → 1 ≤ length P → Sound window P T
unfolding window
sound P T h =
    record {
      some = h;
      right = λ s q inside _.
          right-up inside (record { ahead = omega arith; skips = λ k l b st. omega arith; hands = carries-none P T (s + 1) h }) (carries-none P T s h);
    }
