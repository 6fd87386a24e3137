-- What reading a cue asks of reading the fields behind its title. Not part of any public promise.
use Rattle.std.specs.Prelude.{◌≡◌, ℕ, ◌+◌, List, [], ◌∷◌, get_or, drop, Result, Ok, Err}
use Rattle.matching.specs.declared.refusal.Refusal.{Refusal}
use Rattle.matching.specs.Results.{number_of}
use Rattle.cue_fields.specs.declared.Due.{Due}
use Rattle.cue_fields.specs.declared.Due.TheVariants.{Dates, House}
use Rattle.cue_fields.specs.Form.{form_refusal, form_size, form_bodies}
use Rattle.cues.specs.declared.Rest.{Rest}
use Rattle.cues.specs.Cue.{days_from, mark_from}

-- these fields
abbrev pub tail_form : List Due
tail_form = Dates ∷ House ∷ []

-- what is left at a place reads as these days and this mark, and the cue ends there
pub record RestIs (book : List ℕ) (place : ℕ) (r : Rest) : Type 0 where
  pub none : form_refusal tail_form (drop place book) ≡ 0
  pub days-are : r.days ≡ days_from (get_or (form_bodies tail_form (drop place book)) 0 [])
  pub mark-is : r.mark ≡ mark_from (get_or (form_bodies tail_form (drop place book)) 1 [])
  pub end_is : r.end ≡ place + form_size tail_form (drop place book)

-- so it is, or it is refused with its number
abbrev pub RestRead : List ℕ → ℕ → Result Rest Refusal → Type 0
RestRead book place (Ok r) = RestIs book place r
RestRead book place (Err e) = number_of e ≡ form_refusal tail_form (drop place book)
