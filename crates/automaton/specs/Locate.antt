-- What a walk over a text for a group of phrases promises (document 02, (vi)): the ordinals counted down and the places kept, by the numbers of the phrases that end at each letter. What this gives of the
-- phrases' occurrences is shown in proofs/Locating.antt (`found`, `stands`, `missing`, `reads_all`).
use Rattle.std.specs.Prelude.{◌≡◌, ℕ, ◌+◌, ◌≤◌, ◌<◌, true, Option, Some, None, List, [], length, get_or, replicate}
use Rattle.fold.specs.Fold.{is_page, fold_on}
use Rattle.phrases.specs.Phrases.{phrases_in, letters, endings}
use Rattle.phrases.specs.Counts.{counts}

-- the folded phrases of a group, by the places of their first letters in the book and by their lengths
abbrev pub phrases_of : ℕ → List ℕ → List ℕ → List ℕ → List (List ℕ)
phrases_of page book starts lens = phrases_in (fold_on page) book starts lens

-- the groups that are walked for: one phrase at least and 64 at most, each with a letter at least and standing in the book, 4,096 letters in all; a page that there is; an entry of each list for each
-- phrase, room for the automaton, and places that fit 32 bits
pub record Accepted (page : ℕ) (book starts lens text scratch left place : List ℕ) : Type 0 where
  pub known : is_page page ≡ true
  pub some : 1 ≤ length starts
  pub few : length starts ≤ 64
  pub pairs : length starts ≡ length lens
  pub inside : (k : ℕ) → k < length starts → get_or starts k 0 + get_or lens k 0 ≤ length book
  pub letter : (k : ℕ) → k < length starts → 1 ≤ get_or lens k 0
  pub most : letters (phrases_of page book starts lens) ≤ 4096
  pub lefts : length left ≡ length starts
  pub places : length place ≡ length starts
  pub room : 65535 ≤ length scratch
  pub small : length text ≤ 4294967295

-- what came of a walk's numbers: the ordinals counted down and the places kept, letter by letter, the phrases of each from the lowest bit up; the reads are the steps taken, one a number
pub record Counted (numbers lens left place : List ℕ) (reads : ℕ) (left' place' : List ℕ) : Type 0 where
  pub steps : reads ≡ length numbers
  pub comes : record { left = left'; place = place' } ≡ counts 0 lens numbers (record { left = left; place = place })

-- the group was walked for: the numbers are those at the text's letters; the scratch is 0 throughout
pub record Located (page : ℕ) (book starts lens text scratch left place : List ℕ) (reads : ℕ) (scratch' left' place' : List ℕ) : Type 0 where
  pub accepted : Accepted page book starts lens text scratch left place
  pub counted : Counted (endings (phrases_of page book starts lens) [] text) lens left place reads left' place'
  pub emptied : scratch' ≡ replicate (length scratch) 0

-- it is walked for exactly where it is accepted, and the result is the letters read; else there is none, and all is as before
pub record Answered (page : ℕ) (book starts lens text scratch left place : List ℕ) (r : Option ℕ) (scratch' left' place' : List ℕ) : Type 0 where
  pub walked : (reads : ℕ) → r ≡ Some reads → Located page book starts lens text scratch left place reads scratch' left' place'
  pub refused : r ≡ None → (Accepted page book starts lens text scratch left place → ⊥) × ((scratch' ≡ scratch) × ((left' ≡ left) × (place' ≡ place)))
