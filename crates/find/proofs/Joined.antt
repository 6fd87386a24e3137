-- Acts joined (document 02, (ix)), for a caller of any methods: after three finds of one phrase, in a first text, in a second and in both joined, by whatever methods, none refused
-- and each list long enough for its total, the joined text's places are the first's, those that cross the seam, and the second's moved up; and the totals add up. A joined
-- text above 32,768 would be refused. Shown over `Found`, so it holds of any engine, also of those that come later. Assumes nothing.
use mathlib.Core.Path.{◌≡◌}
use Prim.Native.Nat.{ℕ, ◌≤◌}
use mathlib.Core.List.{List, ◌++◌}
use lib.ListN.{length}
use Rattle.matching.specs.declared.Finding.{Finding}
use Rattle.matching.specs.Joined.{Joined}
use Rattle.matching.proofs.Joined.{found-joined}
use Rattle.find.specs.Find.{Answered}
use Rattle.find.proofs.Agree.{accepted-found}

pub methods-joined : {method₁ method₂ method : ℕ} {P T₁ T₂ scratch₁ scratch₂ scratch list₁ list₂ list : List ℕ} {r₁ r₂ r : Finding}
    {scratch₁' scratch₂' scratch' list₁' list₂' list' : List ℕ}
    → Answered method₁ P T₁ scratch₁ list₁ r₁ scratch₁' list₁' → Answered method₂ P T₂ scratch₂ list₂ r₂ scratch₂' list₂' → Answered method P (T₁ ++ T₂) scratch list r scratch' list'
    → r₁.refusal ≡ 0 → r₂.refusal ≡ 0 → r.refusal ≡ 0 → r₁.total ≤ length list₁ → r₂.total ≤ length list₂ → r.total ≤ length list → Joined P T₁ T₂ r₁ r₂ r list₁' list₂' list'
methods-joined a₁ a₂ a z₁ z₂ z room₁ room₂ room = found-joined (accepted-found a₁ z₁) (accepted-found a₂ z₂) (accepted-found a z) z₁ z₂ z room₁ room₂ room
