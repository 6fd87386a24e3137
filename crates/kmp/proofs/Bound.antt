-- Document 02, (xii): for every pattern and text with 1 ≤ m ≤ n, of any lengths, KMP's steps compare at most 2n - m pairs (`bound`). Each window pays for its looks at 2 a
-- position: a window at s that carries q letters has looks + q ≤ m, and looks + 2s + q ≤ 2s' + q' where the next is at s' and carries q' (`Pays` of `matching`). Assumes nothing.
use Prim.Native.Nat.{ℕ, ◌-◌, ◌*◌, ◌≤◌}
use native.Mathlib.Omega.{arith}
use mathlib.Core.List.{List}
use lib.ListN.{length}
use Rattle.matching.specs.Find.{compared}
use Rattle.matching.proofs.Costs.{pays-bound}
use Rattle.border_tables.proofs.Moves.{kmp-pays}
use Rattle.kmp.specs.Kmp.{window, kmp}
use Rattle.kmp.proofs.Sound.{sound}

-- at most 2n - m comparisons
pub bound : (P T : List ℕ) → 1 ≤ length P → length P ≤ length T → compared kmp P T ≤ 2 * length T - length P
unfolding window
bound P T h k = omega (arith, pays-bound kmp (sound P T h) 1 (λ s q inside c. kmp-pays 1 P T s q (omega arith) c.part) k)
