-- What every engine promises of its find (document 01, "What a find call takes and leaves" and "What a refused call hands back").
use Rattle.std.specs.Prelude.{◌≡◌, ℕ, Bool, cond, List, [], ◌∷◌, length, eqb, ltb}
use Rattle.matching.specs.declared.Finding.{Finding}
use Rattle.matching.specs.Occurrences.{occurrences}
use Rattle.matching.specs.Received.{received}
use Rattle.matching.specs.Refusals.{Test, first_met}
use Rattle.matching.specs.Machine.{Steps, run, compared_in}

-- the refusals of a find: a pattern of m letters, a text of n, a scratch that has so many entries and needs so many
abbrev pub find_tests : ℕ → ℕ → ℕ → ℕ → List Test
find_tests m n has needs =
    (eqb m 0, 2) ∷
    (ltb 1024 m, 3) ∷
    (ltb 32768 n, 4) ∷
    (ltb has needs, 5) ∷
    []

unfoldable pub refusal : ℕ → ℕ → ℕ → ℕ → ℕ
unfolding first_met
refusal m n has needs = first_met (find_tests m n has needs)

-- what engines differ in
pub record Engine : Type 0 where
  -- the scratch entries that a pattern of m letters needs
  pub entries : ℕ → ℕ
  -- the tables of a pattern that stand at the scratch's front, by their rules
  pub tables : List ℕ → List ℕ
  -- the published steps; the comparisons are read off their run, so an engine states no count of its own
  pub steps : Steps

-- the comparisons along an engine's steps, for a pattern and a text of any lengths
unfoldable pub compared : Engine → List ℕ → List ℕ → ℕ
unfolding compared_in
compared e P T = compared_in (run e.steps P T)

-- the refusal of a find by this engine, 0 for none
abbrev pub refusal_of : Engine → List ℕ → List ℕ → List ℕ → ℕ
refusal_of e P T scratch = refusal (length P) (length T) (length scratch) (e.entries (length P))

-- whether a find by this engine is not refused
abbrev pub accepts : Engine → List ℕ → List ℕ → List ℕ → Bool
accepts e P T scratch = eqb (refusal_of e P T scratch) 0

-- a find by this engine gave r and left scratch' of the scratch and list' of the list. Refused: the number and zeros, and all as before.
-- Otherwise: the full total and the comparisons of its steps; the scratch received the tables, and the list the occurrences, each by the rule of a lent list
pub record Found (e : Engine) (P T scratch list : List ℕ) (r : Finding) (scratch' list' : List ℕ) : Type 0 where
  pub answer : r ≡ cond (accepts e P T scratch) (record { refusal = 0; total = length (occurrences P T); comparisons = compared e P T }) (record { refusal = refusal_of e P T scratch; total = 0; comparisons = 0 })
  pub left : scratch' ≡ cond (accepts e P T scratch) (received scratch (e.tables P)) scratch
  pub listed : list' ≡ cond (accepts e P T scratch) (received list (occurrences P T)) list

-- what a find leaves of a pattern that is longer than the text: total 0 and comparisons 0, the list as before, and the tables filled all the same
pub record Longer (e : Engine) (P scratch list : List ℕ) (r : Finding) (scratch' list' : List ℕ) : Type 0 where
  pub answer : r ≡ record { refusal = 0; total = 0; comparisons = 0 }
  pub left : scratch' ≡ received scratch (e.tables P)
  pub listed : list' ≡ list

-- two finds gave one total and left one list
pub record Same (r₁ r₂ : Finding) (list₁ list₂ : List ℕ) : Type 0 where
  pub total : r₁.total ≡ r₂.total
  pub list : list₁ ≡ list₂
