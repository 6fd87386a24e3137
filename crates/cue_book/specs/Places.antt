-- Where cues and titles stand in a book, and what the reading functions promise.
use Rattle.std.specs.Prelude.{◌≡◌, ℕ, zero, suc, ◌+◌, ◌≤◌, cond, List, [], ◌∷◌, length, take, drop, ltb, Result, Ok, Err}
use Rattle.std.specs.Borrow.{Bor}
use Rattle.cue_fields.specs.Field.{number_in}
use Rattle.cue_fields.specs.Form.{form_size}
use Rattle.cues.specs.declared.Cue as found
use Rattle.cues.specs.declared.Choice.{Choice}
use Rattle.cues.specs.Cue.{Cue}
use Rattle.cues.specs.Reading.{cue_size}
use Rattle.cues.specs.Places.{cue_end, cues_meant, start_of_title, title_length}
use Rattle.matching.specs.declared.Answer.{Answer}
use Rattle.matching.specs.declared.Fault.{Fault}
use Rattle.matching.specs.declared.refusal.Refusal.{Refusal}
use Rattle.matching.specs.Results as results
use Rattle.matching.specs.Joined.{those}
use Rattle.cue_book.specs.declared.Part.{Part}
use Rattle.cue_book.specs.declared.TitleRead.{TitleRead}
use Rattle.cue_book.specs.Reading.{read_book, refusal_of, number_of, chosen_of, cues_in, title_at}

-- ---- a book

-- what a book read gives back
abbrev pub book_answer : List ℕ → Answer
book_answer book = record { refusal = refusal_of (read_book book); number = number_of (read_book book) }

-- what a book read for a role and a day gives back
unfoldable pub chosen_answer : Choice → List ℕ → Answer
unfolding read_book those
chosen_answer who book = record { refusal = refusal_of (read_book book); number = chosen_of who (read_book book) }

-- where the cue of that index begins: after the one before it
unfoldable pub cue_place : List ℕ → ℕ → ℕ
unfolding form_size
cue_place book zero = 0
cue_place book (suc index) = cue_place book index + cue_size (drop (cue_place book index) book)

-- reading the cue of that index gave back that cue, whole, and ended where the next one begins
pub record CueBack (book : List ℕ) (index : ℕ) (c : Cue) (r : Result found.Cue Refusal) : Type 0 where
  pub number : results.refused_by r ≡ 0
  pub meant : cues_meant book r ≡ c ∷ []
  pub next : cue_end r ≡ cue_place book (suc index)

-- ---- a title

-- where its title stands
abbrev pub title_in : List ℕ → ℕ → Part
title_in book index =
    record { start = cue_place book index + start_of_title (drop (cue_place book index) book); len = title_length (drop (cue_place book index) book) }

-- the empty part at the book's front
abbrev pub front : Part
front = record { start = 0; len = 0 }

-- where a title is shown: the empty part at the front where the book is refused or lacks the cue
unfoldable pub title_part : List ℕ → ℕ → Part
unfolding read_book cue_place form_size number_in
title_part book index = cond (ltb index (length (cues_in (read_book book)))) (title_in book index) front

-- a part lies in the book, and holds the title of that cue
pub record Shows (book : List ℕ) (index : ℕ) (p : Part) : Type 0 where
  pub inside : p.start + p.len ≤ length book
  pub holds : take p.len (drop p.start book) ≡ title_at (cues_in (read_book book)) index

-- the part, and that the title of that cue is what stands there
pub record TitlePlaced (book : List ℕ) (index : ℕ) (r : Part) : Type 0 where
  pub answer : r ≡ title_part book index
  pub shows : take r.len (drop r.start book) ≡ title_at (cues_in (read_book book)) index

-- of what reading a book for the title of a cue gives: the book's answer, and where the title stands
abbrev pub answer_found : Result TitleRead Fault → Answer
answer_found (Ok t) = record { refusal = 0; number = t.cues }
answer_found (Err f) = record { refusal = results.number_of f.refusal; number = f.number }

abbrev pub part_found : Result TitleRead Fault → Part
part_found (Ok t) = t.title
part_found (Err f) = front

-- the book's answer, and the part
pub record TitleFound (book : List ℕ) (index : ℕ) (r : Result TitleRead Fault) : Type 0 where
  pub answer : answer_found r ≡ book_answer book
  pub part : part_found r ≡ title_part book index

-- the part itself, a reference into the book: it begins in the book's own memory, so many bytes from the book's first, it has the part's length, and the title of that cue is what
-- stands there. So the title of a refused book or of a missing cue is the empty part at the book's front, and no other empty part
pub record TitleShown (book : Bor (List ℕ)) (index : ℕ) (r : Bor (List ℕ)) : Type 0 where
  pub starts : r.ref_ptr ≡ (book.ref_ptr.0, book.ref_ptr.1 + (title_part book.now index).start)
  pub long : length r.now ≡ (title_part book.now index).len
  pub shows : r.now ≡ title_at (cues_in (read_book book.now)) index
