-- A group of phrases looked for at once (document 02, (vi)). A text is read letter by letter; the phrases that end with a letter are the bits of one number, phrase 0 being the lowest.
-- That these numbers give exactly the occurrences of each phrase is shown in proofs/Endings.antt (`risen-occurrences`).
use Rattle.std.specs.Prelude.{ℕ, suc, ◌+◌, ◌-◌, ◌*◌, ◌/◌, ◌%◌, ◌^◌, Bool, cond, List, [], ◌∷◌, ◌++◌, map, length, take, drop, eqb}
use Rattle.matching.specs.Occurrences.{same}

-- ---- the phrases of a group

-- those of a book by the places of their first letters and by their lengths, each folded
unfoldable pub phrases_in : (ℕ → ℕ) → List ℕ → List ℕ → List ℕ → List (List ℕ)
phrases_in f book [] ms = []
phrases_in f book (s ∷ ss) [] = []
phrases_in f book (s ∷ ss) (m ∷ ms) = map f (take m (drop s book)) ∷ phrases_in f book ss ms

-- how many letters they have together
unfoldable pub letters : List (List ℕ) → ℕ
letters [] = 0
letters (p ∷ ps) = length p + letters ps

-- ---- the phrases that end at a letter, as one number

-- whether what was read, t, ends with the phrase p: its last letters are p (fewer than p has are not)
unfoldable pub ends_with : List ℕ → List ℕ → Bool
unfolding same
ends_with t p = same (drop (length t - length p) t) p

-- a test as a bit
abbrev pub bit : Bool → ℕ
bit b = cond b 1 0

-- the number whose bit k, from the lowest up, says whether phrase k passes a test
unfoldable pub bits : (List ℕ → Bool) → List (List ℕ) → ℕ
bits test [] = 0
bits test (p ∷ ps) = bit (test p) + 2 * bits test ps

-- the phrases that end with the last letter of what was read
abbrev pub ended : List (List ℕ) → List ℕ → ℕ
ended ps t = bits (ends_with t) ps

-- the numbers at the letters of a text in order, where t was read before
unfoldable pub endings : List (List ℕ) → List ℕ → List ℕ → List ℕ
unfolding bits ends_with
endings ps t [] = []
endings ps t (c ∷ cs) = ended ps (t ++ c ∷ []) ∷ endings ps (t ++ c ∷ []) cs

-- ---- what the numbers give

-- whether bit k of a number is set
abbrev pub is_set : ℕ → ℕ → Bool
is_set n k = eqb (n / 2 ^ k % 2) 1

-- the places that such numbers give phrase k, of m letters: where its bit is set, less its length; i letters were read before
unfoldable pub risen : ℕ → ℕ → ℕ → List ℕ → List ℕ
risen k m i [] = []
risen k m i (e ∷ es) = let rest = risen k m (suc i) es in cond (is_set e k) ((suc i - m) ∷ rest) rest

-- ---- a walk: one step a letter, over the text in order

-- what a step gives, from a state and one letter: the next state, and a number
pub record Step (S : Type 0) : Type 0 where
  pub state : S
  pub ended : ℕ

-- the numbers that the steps of a walk give, from a state on
unfoldable pub numbers : {S : Type 0} → (S → ℕ → Step S) → S → List ℕ → List ℕ
numbers step s [] = []
numbers step s (c ∷ cs) = (step s c).ended ∷ numbers step (step s c).state cs
