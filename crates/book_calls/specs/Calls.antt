-- What the calls on a book or a cue give a role (document 02, (xiv)): a role that may not do an act gets 19 and zeros, a field read 19 alone and a title the empty part at the book's front, and all is as
-- before. For a role that may, it is what the act gives.
use Rattle.std.specs.Prelude.{◌≡◌, ℕ, ◌+◌, Bool, true, false, cond, List, [], length, take, drop, Result, Err}
use Rattle.std.specs.Borrow.{Bor}
use Rattle.matching.specs.declared.Answer.{Answer}
use Rattle.matching.specs.declared.refusal.Refusal.{Refusal}
use Rattle.matching.specs.declared.refusal.Refusal.TheVariants.{NotAllowed}
use Rattle.roles.specs.Roles.{may_all, not_allowed}
use Rattle.cue_fields.specs.declared.Span.{Span}
use Rattle.cues.specs.declared.Cue.{Cue}
use Rattle.cue_book.specs.declared.Part.{Part}
use Rattle.cue_book.specs.Reading.{read_book, cues_in, title_at}
use Rattle.cue_book.specs.Places.{book_answer, front, title_part}
use Rattle.plain.specs.declared.PlainField.{PlainField}
use Rattle.plain.specs.declared.PlainCue.{PlainCue}
use Rattle.plain.specs.Plain.{field_passed, cue_passed}

-- ---- reading

-- a field read
abbrev pub field_for : ℕ → Result Span Refusal → PlainField
field_for role answer = cond (may_all role) (field_passed answer) (field_passed (Err NotAllowed))

-- a cue read
abbrev pub cue_for : ℕ → Result Cue Refusal → PlainCue
cue_for role answer = cond (may_all role) (cue_passed answer) (cue_passed (Err NotAllowed))

-- what is given back to a role that may not do an act: 19 and 0
abbrev pub role_refused : Answer
role_refused = record { refusal = not_allowed; number = 0 }

-- a book read
abbrev pub book_for : ℕ → List ℕ → Answer
book_for role book = cond (may_all role) (book_answer book) role_refused

-- ---- a title

-- where it is shown, and the letters that stand there
abbrev pub part_for : ℕ → List ℕ → ℕ → Part
part_for role book index = cond (may_all role) (title_part book index) front

abbrev pub title_for : ℕ → List ℕ → ℕ → List ℕ
title_for role book index = cond (may_all role) (title_at (cues_in (read_book book)) index) []

-- the part, and that this title is what stands there
pub record TitlePlacedFor (role : ℕ) (book : List ℕ) (index : ℕ) (r : Part) : Type 0 where
  pub answer : r ≡ part_for role book index
  pub shows : take r.len (drop r.start book) ≡ title_for role book index

-- the part itself, a reference into the book: where it begins in the book's own memory, how long it is, and what stands there
pub record TitleShownFor (role : ℕ) (book : Bor (List ℕ)) (index : ℕ) (r : Bor (List ℕ)) : Type 0 where
  pub starts : r.ref_ptr ≡ (book.ref_ptr.0, book.ref_ptr.1 + (part_for role book.now index).start)
  pub long : length r.now ≡ (part_for role book.now index).len
  pub shows : r.now ≡ title_for role book.now index

-- ---- writing

-- an act that gives an answer and writes into a buffer: where the role may do it, this is promised; and where it may not, 19 and 0 are given back and the buffer is as before
pub record Allowed (may : Bool) (Promised : Type 0) (buffer : List ℕ) (r : Answer) (buffer' : List ℕ) : Type 0 where
  pub done : may ≡ true → Promised
  pub refused : may ≡ false → (r ≡ role_refused) × (buffer' ≡ buffer)
