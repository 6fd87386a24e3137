-- Where a cue and its title stand in a book, and what reading a cue promises.
use Rattle.std.specs.Prelude.{◌≡◌, ℕ, ◌+◌, cond, List, [], ◌∷◌, drop, eqb, Result, Ok, Err}
use Rattle.matching.specs.declared.refusal.Refusal.{Refusal}
use Rattle.matching.specs.Results.{refused_by}
use Rattle.cue_fields.specs.Field.{number_in, field_length, field_size, refusal_named, span, bytes_in}
use Rattle.cue_fields.specs.Form.{form_size, after_form}
use Rattle.cues.specs.declared.Cue as found
use Rattle.cues.specs.Cue.{Cue, head_form, cue_with}
use Rattle.cues.specs.Reading.{cue_refusal, cue_size, cue_of}

-- the place after the cue, 0 for a refusal
abbrev pub cue_end : Result found.Cue Refusal → ℕ
cue_end (Ok c) = c.end
cue_end (Err r) = 0

-- the cue that one read is: its phrase and its title are parts of the book. An answer means that one, and a refusal none
abbrev pub cue_meant : List ℕ → found.Cue → Cue
cue_meant book c = cue_with (bytes_in book c.phrase) c.ordinal (bytes_in book c.title) c.days c.mark

abbrev pub cues_meant : List ℕ → Result found.Cue Refusal → List Cue
cues_meant book (Ok c) = cue_meant book c ∷ []
cues_meant book (Err r) = []

-- where a cue's title starts, from the cue on: after the fields before it and its header; its length; and where it ends
abbrev pub start_of_title : List ℕ → ℕ
start_of_title rest = form_size head_form rest + 3

abbrev pub title_length : List ℕ → ℕ
title_length rest = field_length (after_form head_form rest)

abbrev pub end_of_title : List ℕ → ℕ
end_of_title rest = start_of_title rest + title_length rest

-- the cue at a place, by what is left of the book there
abbrev pub cue_placed : ℕ → List ℕ → found.Cue
cue_placed place rest =
    record {
      phrase = span (place + 3) (place + field_size rest);
      ordinal = (cue_of rest).ordinal;
      title = span (place + start_of_title rest) (place + end_of_title rest);
      days = (cue_of rest).days;
      mark = (cue_of rest).mark;
      end = place + cue_size rest;
    }

-- the answer at a place
unfoldable pub cue_at : List ℕ → ℕ → Result found.Cue Refusal
unfolding cue_refusal cue_of form_size number_in
cue_at book place =
    let rest : List ℕ = drop place book in
    cond (eqb (cue_refusal rest) 0) (Ok (cue_placed place rest)) (Err (refusal_named (cue_refusal rest)))

-- what is read there, its number in document 01, and the cue that it means
pub record CueRead (book : List ℕ) (place : ℕ) (r : Result found.Cue Refusal) : Type 0 where
  pub answer : r ≡ cue_at book place
  pub number : refused_by r ≡ cue_refusal (drop place book)
  pub meant : cues_meant book r ≡ cond (eqb (cue_refusal (drop place book)) 0) (cue_of (drop place book) ∷ []) []
