-- The occurrences in two texts joined, of any lengths (`occurrences-joined`): those of the first text, those that cross the seam, and those of the second, moved up by the first's
-- length. The pattern has at least one letter: an empty one stands at the seam both at the first text's end and at the second's start, and would be listed there twice.
-- After it, what three finds give and leave, for any engines (`found-joined`). Assumes nothing.
use mathlib.Core.Path.{◌≡◌, sym, ap, ◌∙◌}
use Prim.Native.Nat.{ℕ, ◌+◌, ◌-◌, ◌≤◌}
use native.Mathlib.Omega.{arith}
use mathlib.Core.Bool.{Bool}
use mathlib.Core.List.{List, [], ◌++◌, append-nil, Memᴰ}
use lib.ListN.{length, take, length-append, length-map}
use Rattle.matching.specs.declared.Finding.{Finding}
use Rattle.matching.specs.Occurrences.{occurrences}
use Rattle.matching.specs.Find.{Engine, Found}
use Rattle.matching.specs.Joined.{last_of, those, crosses, crossing, Crosses, moved_up, places, Joined}
use Rattle.matching.proofs.Received.{received-whole}
use Rattle.matching.proofs.Occurrences.{occurrences-are}
use Rattle.matching.proofs.Those.{those-sound, those-complete}
use Rattle.matching.proofs.Around.{touches, touches-both, touches-is, occurrences-around, those-touching}
use Rattle.matching.proofs.Find.{within, found-answer, found-listed, found_none}

-- ---- the joined text

-- a position is listed exactly where the pattern stands and crosses the seam
pub crossing-are : (P T₁ T₂ : List ℕ) (k : ℕ) → (Memᴰ k (crossing P T₁ T₂) → Crosses P T₁ T₂ k) × (Crosses P T₁ T₂ k → Memᴰ k (crossing P T₁ T₂))
unfolding crossing
crossing-are P T₁ T₂ k =
    let test : ℕ → Bool = crosses (length T₁) (length P) in
    let all : List ℕ = occurrences P (T₁ ++ T₂) in (
      λ l.
          let r = those-sound test all k l in
          let p = touches-both (length T₁) (length T₁) (length P) k r.1 in
          record { occurs = (occurrences-are P (T₁ ++ T₂) k).0 r.0; starts = p.0; ends = p.1 },
      λ c. those-complete test all k ((occurrences-are P (T₁ ++ T₂) k).1 c.occurs) (touches-is (length T₁) (length T₁) (length P) k c.starts c.ends),
    )

module _ (P T₁ T₂ : List ℕ) (some : 1 ≤ length P) where
  abbrev n₁ : ℕ
  n₁ = length T₁

  -- the letters around the seam, which is a stretch of no letters, and where they begin
  abbrev a : ℕ
  a = n₁ - (length P - 1)

  abbrev middle : List ℕ
  middle = moved_up a (occurrences P (last_of (length P - 1) T₁ ++ [] ++ take (length P - 1) T₂))

  abbrev second : List ℕ
  second = moved_up n₁ (occurrences P T₂)

  ranges : occurrences P (T₁ ++ T₂) ≡ occurrences P T₁ ++ middle ++ second
  ranges =
      let none : n₁ + 0 ≡ n₁ = omega arith in
      ap (λ (l : List ℕ). occurrences P (l ++ T₂)) (sym (append-nil T₁)) ∙ occurrences-around P T₁ [] T₂ some ∙ ap (λ (n : ℕ). occurrences P T₁ ++ middle ++ moved_up n (occurrences P T₂)) none

  -- of the three, the middle one crosses the seam
  middle-is : middle ≡ crossing P T₁ T₂
  unfolding crossing
  middle-is =
      let none : n₁ + 0 ≡ n₁ = omega arith in
      sym
      (ap (λ (l : List ℕ). those (crosses n₁ (length P)) (occurrences P (l ++ T₂))) (sym (append-nil T₁))
      ∙ ap (λ (n : ℕ). those (touches n₁ n (length P)) (occurrences P (T₁ ++ [] ++ T₂))) (sym none)
      ∙ those-touching P T₁ [] T₂ some)

  pub occurrences-joined : occurrences P (T₁ ++ T₂) ≡ occurrences P T₁ ++ crossing P T₁ T₂ ++ moved_up (length T₁) (occurrences P T₂)
  occurrences-joined = ranges ∙ ap (λ (l : List ℕ). occurrences P T₁ ++ l ++ second) middle-is

-- ---- three finds, by any engines

-- the places that a find left are the occurrences, where it was not refused and its list is long enough for its total
pub found-places : {e : Engine} {P T scratch list : List ℕ} {r : Finding} {scratch' list' : List ℕ} → Found e P T scratch list r scratch' list' → r.refusal ≡ 0 → r.total ≤ length list
    → (r.total ≡ length (occurrences P T)) × (places r list' ≡ occurrences P T)
found-places {e} {P} {T} {scratch} {list} {r} f z room =
    let none = found_none f z in
    let total : r.total ≡ length (occurrences P T) = ap (λ (x : Finding). x.total) (found-answer f none) in
    (total, rw (total, found-listed f none) (received-whole list (occurrences P T) (omega arith)))

pub found-joined : {e₁ e₂ e : Engine} {P T₁ T₂ scratch₁ scratch₂ scratch list₁ list₂ list : List ℕ} {r₁ r₂ r : Finding} {scratch₁' scratch₂' scratch' list₁' list₂' list' : List ℕ}
    → Found e₁ P T₁ scratch₁ list₁ r₁ scratch₁' list₁' → Found e₂ P T₂ scratch₂ list₂ r₂ scratch₂' list₂' → Found e P (T₁ ++ T₂) scratch list r scratch' list'
    → r₁.refusal ≡ 0 → r₂.refusal ≡ 0 → r.refusal ≡ 0 → r₁.total ≤ length list₁ → r₂.total ≤ length list₂ → r.total ≤ length list → Joined P T₁ T₂ r₁ r₂ r list₁' list₂' list'
found-joined {P = P} {T₁} {T₂} {scratch = scratch} {r₁ = r₁} {r₂} {r} f₁ f₂ f z₁ z₂ z room₁ room₂ room =
    let p₁ = found-places f₁ z₁ room₁ in
    let p₂ = found-places f₂ z₂ room₂ in
    let p = found-places f z room in
    let some : 1 ≤ length P = (within (length P) (length (T₁ ++ T₂)) (length scratch) _ (found_none f z)).some in
    let all = occurrences-joined P T₁ T₂ some in
    let front : List ℕ = occurrences P T₁ ++ crossing P T₁ T₂ in
    let moved : List ℕ = moved_up (length T₁) (occurrences P T₂) in
    record {
      listed = p.1 ∙ all ∙ rw (p₁.1, p₂.1);
      total =
          omega
          (arith, p.0, p₁.0, p₂.0, ap length all, length-append front moved, length-append (occurrences P T₁) (crossing P T₁ T₂), length-map (occurrences P T₂) (λ (k : ℕ). k + length T₁));
    }
