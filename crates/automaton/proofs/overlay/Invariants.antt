-- `automaton::overlay`: the children above x are laid.
use Rattle.std.proofs.Common.{◌≡◌, ℕ, List, length}
use Rattle.tries.specs.Rows.{Rowable}
use Rattle.tries.proofs.Overlays.{Laying}
use Rattle.automaton.proofs.overlay.Given as goal

abbrev pub invariant-loop-x : goal.invariant-loop-x
invariant-loop-x l = (length l.t ≡ length l.fn.t) × ((names : List (List ℕ)) → Rowable names l.fn.t l.w l.s → Laying names l.fn.t l.t l.w l.s l.x)

abbrev pub decreases-loop-x : goal.decreases-loop-x
decreases-loop-x l = l.x
