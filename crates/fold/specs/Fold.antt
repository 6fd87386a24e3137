-- Folding (document 01, "Cue book, folding, lines"; document 02, (iii) and (iv)): small letters for capital ones, on page 1 (ISO 8859-1) and on page 15 (ISO 8859-15).
use Rattle.std.specs.Prelude.{◌≡◌, ℕ, ◌+◌, min, Bool, cond, not, ◌&&◌, ◌||◌, List, [], ◌∷◌, map, length, eqb, leb, Result, Ok, Err}
use Rattle.matching.specs.declared.Answer.{Answer}
use Rattle.matching.specs.declared.refusal.Refusal.{Refusal}
use Rattle.matching.specs.declared.refusal.Refusal.TheVariants.{UnknownPage}
use Rattle.matching.specs.Received.{received}
use Rattle.matching.specs.Results.{number_of}
use Rattle.fold.specs.declared.Folding.{Folding}
use Rattle.fold.specs.declared.Page.{Page}
use Rattle.fold.specs.declared.Page.TheVariants.{One, Fifteen}

-- ---- page 1 adds 32 to 0x41-0x5A and to 0xC0-0xDE except 0xD7; all other bytes stay

-- whether a letter is one of those that change
unfoldable pub capital : ℕ → Bool
capital c = (leb 65 c && leb c 90) || (leb 192 c && leb c 222 && not (eqb c 215))

-- what a letter folds to
unfoldable pub folded : ℕ → ℕ
unfolding capital
folded c = cond (capital c) (c + 32) c

-- ---- page 15 also has these pairs, the first folding to the second

abbrev pub pairs15 : List (ℕ × ℕ)
pairs15 = (0xA6, 0xA8) ∷ (0xB4, 0xB8) ∷ (0xBC, 0xBD) ∷ (0xBE, 0xFF) ∷ []

-- what a letter folds to by pairs, and by another fold where it is the first of none
unfoldable pub paired : List (ℕ × ℕ) → (ℕ → ℕ) → ℕ → ℕ
paired [] f c = f c
paired (p ∷ ps) f c = cond (eqb c p.0) p.1 (paired ps f c)

-- what a letter folds to: by these pairs, and otherwise as on page 1
unfoldable pub folded15 : ℕ → ℕ
unfolding paired folded
folded15 c = paired pairs15 folded c

-- ---- a page by its number

-- whether there is such a page: 1 or 15
unfoldable pub is_page : ℕ → Bool
is_page page = eqb page 1 || eqb page 15

-- the page that a number names; one that names none is refused with 14
abbrev pub page_by : ℕ → Result Page Refusal
page_by number = cond (eqb number 1) (Ok One) (cond (eqb number 15) (Ok Fifteen) (Err UnknownPage))

-- its fold; where there is no such page, no call folds
unfoldable pub fold_on : ℕ → ℕ → ℕ
unfolding folded15
fold_on page = cond (eqb page 15) folded15 folded

-- ---- what the calls promise: 14 and 0, all as before, where there is no such page

-- the letters written, as C receives them: 0 where the page is refused
abbrev pub folding : Result ℕ Refusal → Folding
folding (Ok n) = record { refusal = 0; number = n }
folding (Err r) = record { refusal = number_of r; number = 0 }

-- of a letter: 0 and what it folds to
unfoldable pub letter_answer : ℕ → ℕ → Answer
unfolding is_page fold_on
letter_answer page c = cond (is_page page) (record { refusal = 0; number = fold_on page c }) (record { refusal = 14; number = 0 })

-- of a source: 0 and the letters written, as many as the target can hold; its bytes past those keep their values
pub record LettersFolded (page : ℕ) (source target : List ℕ) (r : Folding) (target' : List ℕ) : Type 0 where
  pub answer : r ≡ cond (is_page page) (record { refusal = 0; number = min (length source) (length target) }) (record { refusal = 14; number = 0 })
  pub left : target' ≡ cond (is_page page) (received target (map (fold_on page) source)) target
