-- A book with one title replaced (document 02, (xiv)): its bytes, the refusals in their order, what writing it promises, and what the theorem on it says.
use Rattle.std.specs.Prelude.{◌≡◌, ℕ, ◌+◌, ◌-◌, Bool, cond, not, List, [], ◌∷◌, ◌++◌, length, take, drop, eqb, ltb, leb}
use Rattle.matching.specs.declared.Answer.{Answer}
use Rattle.matching.specs.Refusals.{Test, first_met}
use Rattle.pieces.specs.Pieces.{joined}
use Rattle.cue_fields.specs.Field.{two_bytes}
use Rattle.cues.specs.Cue.{Cue}
use Rattle.cue_book.specs.declared.Part.{Part}
use Rattle.cue_book.specs.Reading.{cues, read_book, refusal_of, number_of}
use Rattle.cue_book.specs.Places.{title_part}

-- ---- the new book

-- the bytes of a book with another title at a cue: those before the title's length, the two bytes of the new length, the new title, and those behind the old title
abbrev pub retitled : List ℕ → ℕ → List ℕ → List ℕ
retitled book index title =
    let p : Part = title_part book index in
    take (p.start - 2) book ++ (two_bytes (length title) ++ (title ++ drop (p.start + p.len) book))

-- ---- the refusals

-- in their order: a fault of the book with its own number, a title above 200 (9), a cue past the last (12), a buffer shorter than the new book (13)
abbrev pub retitle_tests : List ℕ → ℕ → List ℕ → ℕ → List Test
retitle_tests book index title capacity =
    (not (eqb (refusal_of (read_book book)) 0), refusal_of (read_book book)) ∷
    (ltb 200 (length title), 9) ∷
    (leb (number_of (read_book book)) index, 12) ∷
    (ltb capacity (length (retitled book index title)), 13) ∷
    []

-- the first of them, 0 for none
unfoldable pub retitle_refusal : List ℕ → ℕ → List ℕ → ℕ → ℕ
unfolding first_met read_book title_part
retitle_refusal book index title capacity = first_met (retitle_tests book index title capacity)

-- whether the new book is written
abbrev pub retitles : List ℕ → ℕ → List ℕ → ℕ → Bool
retitles book index title capacity = eqb (retitle_refusal book index title capacity) 0

-- the number that belongs to a refusal: the cue's index to a fault of the book, and 0 to the others
abbrev pub refused_number : List ℕ → ℕ
refused_number book = cond (eqb (refusal_of (read_book book)) 0) 0 (number_of (read_book book))

-- ---- what is promised

-- what is given back: 0 and the new book's length, or the refusal and the number that belongs to it
abbrev pub retitle_answer : List ℕ → ℕ → List ℕ → ℕ → Answer
retitle_answer book index title capacity =
    record {
      refusal = retitle_refusal book index title capacity;
      number = cond (retitles book index title capacity) (length (retitled book index title)) (refused_number book);
    }

-- that, and the buffer afterwards: the new book at its start and the rest kept, or all as before
pub record Retitled (book : List ℕ) (index : ℕ) (title buffer : List ℕ) (r : Answer) (buffer' : List ℕ) : Type 0 where
  pub answer : r ≡ retitle_answer book index title (length buffer)
  pub left : buffer' ≡ cond (retitles book index title (length buffer)) (retitled book index title ++ drop (length (retitled book index title)) buffer) buffer

-- ---- what the theorem says

-- a cue with another title, and all else its own
abbrev pub titled : List ℕ → Cue → Cue
titled title c =
    record {
      phrase = c.phrase;
      ordinal = c.ordinal;
      title = title;
      days = c.days;
      mark = c.mark;
    }

-- these bytes read as the book does, but that the cue of that index has this title
pub record NewBook (book : List ℕ) (index : ℕ) (title bytes : List ℕ) : Type 0 where
  pub before : List Cue
  pub cue : Cue
  pub after : List Cue
  pub read : read_book book ≡ cues (before ++ cue ∷ after)
  pub named : index ≡ length before
  pub anew : read_book bytes ≡ cues (before ++ titled title cue ∷ after)

-- ---- what is asked of the tests of the call and of laying the new book out; not part of any public promise

-- the two rows of `retitle_tests` that ask for no book but for the number of its cues
abbrev pub call_tests : List ℕ → ℕ → ℕ → List Test
call_tests title count index = (ltb 200 (length title), 9) ∷ (leb count index, 12) ∷ []

-- its pieces: the bytes before the title's length, the two bytes of the new length, the new title, and the bytes behind the old one
abbrev pub book_pieces : List ℕ → List ℕ → List ℕ → List (List ℕ)
book_pieces before title behind = before ∷ two_bytes (length title) ∷ title ∷ behind ∷ []

-- whether a buffer is shorter than the pieces
abbrev pub shorter : List ℕ → List (List ℕ) → Bool
shorter buffer pieces = ltb (length buffer) (length (joined pieces))

-- the pieces stand at the buffer's start, and their length is given back; or 13, and all is as before
pub record Put (pieces : List (List ℕ)) (buffer : List ℕ) (r : Answer) (buffer' : List ℕ) : Type 0 where
  pub answer : r ≡ cond (shorter buffer pieces) (record { refusal = 13; number = 0 }) (record { refusal = 0; number = length (joined pieces) })
  pub left : buffer' ≡ cond (shorter buffer pieces) buffer (joined pieces ++ drop (length (joined pieces)) buffer)
