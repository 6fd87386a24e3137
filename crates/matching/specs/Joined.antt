-- Two texts joined into one (document 02, (ix)): the positions that cross the seam, and what three finds, in the first text, in the second and in the joined one, have to do with
-- each other. That `crossing` holds exactly the positions that cross is shown in proofs/Joined.antt (`crossing-are`).
use Rattle.std.specs.Prelude.{◌≡◌, ℕ, ◌+◌, ◌-◌, ◌<◌, Bool, cond, ◌&&◌, List, [], ◌∷◌, ◌++◌, map, length, take, drop, ltb}
use Rattle.matching.specs.declared.Finding.{Finding}
use Rattle.matching.specs.Occurrences.{occurrences, Occurs}

-- those of some things that pass a test, in their order
unfoldable pub those : {A : Type 0} → (A → Bool) → List A → List A
those test [] = []
those test (x ∷ xs) = let rest = those test xs in cond (test x) (x ∷ rest) rest

-- whether a pattern of m letters at position k starts before the seam that follows n letters, and ends after it
abbrev pub crosses : ℕ → ℕ → ℕ → Bool
crosses n m k = ltb k n && ltb n (k + m)

-- the positions at which P stands in the joined text and crosses the seam, rising
unfoldable pub crossing : List ℕ → List ℕ → List ℕ → List ℕ
unfolding those
crossing P T₁ T₂ = those (crosses (length T₁) (length P)) (occurrences P (T₁ ++ T₂))

-- what the request asks of a position that crosses the seam: the pattern stands there in the joined text, starts before the seam and ends after it
pub record Crosses (P T₁ T₂ : List ℕ) (k : ℕ) : Type 0 where
  pub occurs : Occurs P (T₁ ++ T₂) k
  pub starts : k < length T₁
  pub ends : length T₁ < k + length P

-- at most c letters at a text's end
abbrev pub last_of : ℕ → List ℕ → List ℕ
last_of c T = drop (length T - c) T

-- positions moved up by n
abbrev pub moved_up : ℕ → List ℕ → List ℕ
moved_up n positions = map (λ k. k + n) positions

-- the positions that a find left in its list, where it is long enough for its total
abbrev pub places : Finding → List ℕ → List ℕ
places r list = take r.total list

-- the places in the joined text are the first text's places, then those that cross the seam, then the second's moved up by the first's length; and the totals add up
pub record Joined (P T₁ T₂ : List ℕ) (r₁ r₂ r : Finding) (list₁ list₂ list : List ℕ) : Type 0 where
  pub listed : places r list ≡ places r₁ list₁ ++ crossing P T₁ T₂ ++ moved_up (length T₁) (places r₂ list₂)
  pub total : r.total ≡ r₁.total + length (crossing P T₁ T₂) + r₂.total
