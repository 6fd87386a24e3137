-- The moves along a search that was told whether to note them. Assumes nothing.
use mathlib.Core.Path.{◌≡◌, refl, ap, ◌∙◌}
use Prim.Native.Nat.{ℕ, ◌+◌, ◌≤◌, ◌<◌}
use native.Mathlib.Omega.{arith}
use mathlib.Core.Bool.{Bool, true, false, cond, false≢true}
use mathlib.Core.List.{List}
use lib.ListN.{length}
use Rattle.matching.specs.Machine.{at}
use Rattle.fjs_steps.specs.Moves.{put_move}
use Rattle.fjs_steps.proofs.Moves.{put-long}
use Rattle.fjs_steps.proofs.MoveLists.{Noted, noted-none}

-- the list keeps its length, there are no more moves than places passed, and where they are noted, they are those of the run so far
pub record Tracked (P T noted₀ : List ℕ) (noting : Bool) (s q count : ℕ) (noted : List ℕ) : Type 0 where
  pub long : length noted ≡ length noted₀
  pub few : count ≤ s
  pub made : noting ≡ true → Noted P T noted₀ (at s q) count noted

pub tracked-none : (P T noted : List ℕ) (noting : Bool) → Tracked P T noted noting 0 0 0 noted
tracked-none P T noted noting = record { long = refl; few = omega arith; made = λ _. noted-none P T noted }

-- a move by a rule, noted or not
pub tracked-more : {P T noted₀ noted noted' : List ℕ} {s q s' q' count count' : ℕ} (noting : Bool) (rule : ℕ) → Tracked P T noted₀ noting s q count noted → s < s'
    → (Noted P T noted₀ (at s q) count noted → Noted P T noted₀ (at s' q') (count + 1) (put_move noted count s s' rule))
    → count' ≡ cond noting (count + 1) count → noted' ≡ cond noting (put_move noted count s s' rule) noted → Tracked P T noted₀ noting s' q' count' noted'
tracked-more {noted = noted} {s = s} {s' = s'} {count = count} true rule t ahead more is left =
    record { long = ap length left ∙ put-long noted count s s' rule ∙ t.long; few = omega (arith, is, t.few); made = λ _. rw (is, left) (more (t.made refl)) }
tracked-more false rule t ahead more is left = record { long = ap length left ∙ t.long; few = omega (arith, is, t.few); made = λ e. absurd (false≢true e) }
