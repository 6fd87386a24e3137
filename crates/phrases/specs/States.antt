-- The states of the group's automaton (document 02, (vi)): the state is the longest end of what was read that is a prefix of a phrase (`state-ends`, `state-longest`). That a state and one letter alone give the next state and the
-- number of the phrases that end there, whatever was read before, is shown in proofs/States.antt (`state-on`, `ended-state`) and proofs/Endings.antt (`steps-endings`).
use Rattle.std.specs.Prelude.{ℕ, Bool, false, cond, ◌||◌, List, [], ◌∷◌, ◌++◌, length, take, drop}
use Rattle.matching.specs.Occurrences.{same}
use Rattle.phrases.specs.Phrases.{bits, ended, Step}

-- whether l is a prefix of the phrase p: its first letters
unfoldable pub starts_with : List ℕ → List ℕ → Bool
unfolding same
starts_with p l = same (take (length l) p) l

-- whether l is a prefix of one of the phrases
unfoldable pub known : List (List ℕ) → List ℕ → Bool
unfolding starts_with
known [] l = false
known (p ∷ ps) l = starts_with p l || known ps l

-- the longest end of t that is a prefix of a phrase; the empty one where there is no other
unfoldable pub state : List (List ℕ) → List ℕ → List ℕ
unfolding known
state ps [] = []
state ps (c ∷ t) = cond (known ps (c ∷ t)) (c ∷ t) (state ps t)

-- the state after one letter more, from the state alone
abbrev pub next : List (List ℕ) → List ℕ → ℕ → List ℕ
next ps s c = state ps (s ++ (c ∷ []))

-- the step: from a state and one letter the next state, and the number of the phrases that end there
abbrev pub step : List (List ℕ) → List ℕ → ℕ → Step (List ℕ)
step ps s c = record { state = next ps s c; ended = ended ps (next ps s c) }

-- the fail link of a state: its longest shorter end that is a prefix of a phrase
abbrev pub fail : List (List ℕ) → List ℕ → List ℕ
fail ps s = state ps (drop 1 s)

-- the phrases that are s itself
abbrev pub own : List (List ℕ) → List ℕ → ℕ
own ps s = bits (same s) ps
