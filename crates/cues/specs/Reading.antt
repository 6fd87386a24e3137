-- What reading a cue gives on every byte string (document 01, "Cue book, folding, lines"; document 02, (viii) and (xiv)), with the tests in the document's order. `rest` is what is left of the book at a cue.
use Rattle.std.specs.Prelude.{◌≡◌, ℕ, List, ◌++◌, get_or}
use Rattle.cue_fields.specs.declared.Due.TheVariants.{Dates, House}
use Rattle.cue_fields.specs.Field.{tag_of, number_in}
use Rattle.cue_fields.specs.Form.{form_refusal, form_size, after_form, form_bodies}
use Rattle.cues.specs.Cue.{Cue, cue_form, days_from, mark_from, cue_from, cue_bytes, Valid}

-- the first refusal among its fields, 0 for none
unfoldable pub cue_refusal : List ℕ → ℕ
unfolding form_refusal
cue_refusal rest = form_refusal cue_form rest

-- the bytes that it takes, and what is left after it
abbrev pub cue_size : List ℕ → ℕ
cue_size rest = form_size cue_form rest

abbrev pub after_cue : List ℕ → List ℕ
after_cue rest = after_form cue_form rest

-- its value
unfoldable pub cue_of : List ℕ → Cue
unfolding form_bodies number_in days_from mark_from
cue_of rest = cue_from (form_bodies cue_form rest)

-- what follows a cue does not begin with the tag of dates or of a house mark, so that it tells whether they were left out: another cue does not, and the book's end does not
abbrev pub Apart : List ℕ → Type 0
Apart more = (get_or more 0 0 ≡ tag_of Dates → ⊥) × (get_or more 0 0 ≡ tag_of House → ⊥)

-- what is written reads back: its bytes, before anything that stands apart, are not refused, are read as that cue, and leave the rest
pub record CueReadsBack (c : Cue) (more : List ℕ) : Type 0 where
  pub none : cue_refusal (cue_bytes c ++ more) ≡ 0
  pub value : cue_of (cue_bytes c ++ more) ≡ c
  pub after : after_cue (cue_bytes c ++ more) ≡ more

-- what is accepted was so written: it is the bytes of the cue that it is read as, which is valid, and what is left
pub record CueWasWritten (rest : List ℕ) : Type 0 where
  pub is : rest ≡ cue_bytes (cue_of rest) ++ after_cue rest
  pub valid : Valid (cue_of rest)
