-- KMP's steps are right at every window whose carried letters are equal, by the law of its table. Assumes nothing.
use Prim.Native.Nat.{ℕ, ◌≤◌}
use mathlib.Core.List.{List}
use lib.ListN.{length}
use Rattle.matching.proofs.Machine.{Sound, right-up}
use Rattle.border_tables.proofs.Moves.{kmp-moves}
use Rattle.kmp.specs.Kmp.{window}

pub sound : (P T : List ℕ) → 1 ≤ length P → Sound window P T
unfolding window
sound P T h = record { some = h; right = λ s q inside c. right-up inside (kmp-moves P T s q inside c) c }
