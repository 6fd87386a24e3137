-- A cut of a text (document 02, (xiii)): a stretch of it is replaced by new letters. The new text; what the list must be that a call is given; and the refusals of a call. P is the
-- phrase, T the old text. That the old text's own list is never refused is shown in proofs/Lists.antt (`old-list-accepted`).
use Rattle.std.specs.Prelude.{ℕ, suc, ◌+◌, Bool, true, not, ◌&&◌, ◌||◌, List, [], ◌∷◌, ◌++◌, length, take, drop, ltb, leb}
use Rattle.matching.specs.Refusals.{Test, first_met}
use Rattle.matching.specs.Find.{find_tests}

-- a cut: the stretch from the letter at `start` up to the one before `end`, and the new letters in its place
pub record Cut : Type 0 where
  pub start : ℕ
  pub end : ℕ
  pub letters : List ℕ

-- the cut of these
abbrev pub cut : ℕ → ℕ → List ℕ → Cut
cut start end letters = record { start = start; end = end; letters = letters }

-- the new text: the old text up to the start, the new letters, the old text from the end on
abbrev pub new_text : List ℕ → Cut → List ℕ
new_text T c = take c.start T ++ c.letters ++ drop c.end T

-- ---- the list that a call is given

-- whether places strictly rise, the first of them being at least `low`
unfoldable pub rises_from : ℕ → List ℕ → Bool
rises_from low [] = true
rises_from low (k ∷ ks) = leb low k && rises_from (suc k) ks

-- whether places strictly rise
abbrev pub rises : List ℕ → Bool
rises = rises_from 0

-- whether a phrase of m letters stays within n letters at each of these places
unfoldable pub all_fit : ℕ → ℕ → List ℕ → Bool
all_fit m n [] = true
all_fit m n (k ∷ ks) = leb (k + m) n && all_fit m n ks

-- ---- the refusals

-- the stretch; the list; the new text
abbrev pub cut_tests : List ℕ → List ℕ → List ℕ → Cut → List Test
cut_tests P T list c =
    (ltb c.end c.start || ltb (length T) c.end, 17) ∷
    (not (rises list && all_fit (length P) (length T) list), 18) ∷
    (ltb 32768 (length (new_text T c)), 4) ∷
    []

-- the refusal of a call, 0 for none: phrase and old text as in a find, which needs no scratch here; then the cut
unfoldable pub relist_refusal : List ℕ → List ℕ → List ℕ → Cut → ℕ
unfolding first_met rises_from all_fit
relist_refusal P T list c = first_met (find_tests (length P) (length T) 0 0 ++ cut_tests P T list c)
