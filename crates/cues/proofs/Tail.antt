-- The fields behind a cue's title: read one after another, left out, or refused. Assumes nothing.
use mathlib.Core.Path.{◌≡◌, sym, ap, ◌∙◌}
use Prim.Native.Nat.{ℕ}
use native.Mathlib.Omega.{arith}
use mathlib.Core.Bool.{false, ◌||◌}
use mathlib.Core.List.{List, [], ◌∷◌}
use lib.ListN.{get_or, drop}
use Rattle.std.specs.Prelude.{Err}
use Rattle.matching.specs.declared.refusal.Refusal.{Refusal}
use Rattle.matching.specs.Results.{number_of}
use Rattle.matching.proofs.CaseAnalysis.{neither}
use Rattle.matching.proofs.Find.{number-some}
use Rattle.cue_fields.specs.declared.Due.{Due}
use Rattle.cue_fields.specs.declared.Due.TheVariants.{Dates, House}
use Rattle.cue_fields.specs.declared.Span.{Span}
use Rattle.cue_fields.specs.Field.{bytes_in}
use Rattle.cue_fields.specs.Form.{stands, DueRead, form_refusal, form_bodies}
use Rattle.cue_fields.proofs.Form.{left_out, form-none, form-refused}
use Rattle.cue_fields.proofs.Steps.{due-out, DueAt, due-at, step-refusal, step-size, step-bodies}
use Rattle.cues.specs.declared.Days.{Days}
use Rattle.cues.specs.declared.Days.TheVariants.{Always}
use Rattle.cues.specs.declared.Mark.{Mark}
use Rattle.cues.specs.declared.Mark.TheVariants.{Unmarked}
use Rattle.cues.specs.Cue.{days_from, mark_from}
use Rattle.cues.specs.Rest.{tail_form, RestIs}

-- ---- they are read

module _ {book : List ℕ} {place : ℕ} {dates house : Span} (d : DueAt book place Dates dates) (h : DueAt book dates.end House house) where
  bodies : form_bodies tail_form (drop place book) ≡ bytes_in book dates ∷ bytes_in book house ∷ []
  bodies =
      step-bodies d (House ∷ [])
      ∙ ap (λ (l : List (List ℕ)). bytes_in book dates ∷ l) (step-bodies h [] ∙ ap (λ (l : List (List ℕ)). bytes_in book house ∷ l) (form-none (drop house.end book)).2)

  pub rest-is : {days : Days} {mark : Mark} → days ≡ days_from (bytes_in book dates) → mark ≡ mark_from (bytes_in book house) → RestIs book place (record { days = days; mark = mark; end = house.end })
  rest-is e g =
      record {
        none = step-refusal d (House ∷ []) ∙ step-refusal h [] ∙ (form-none (drop house.end book)).0;
        days-are = e ∙ ap (λ (l : List (List ℕ)). days_from (get_or l 0 [])) (sym bodies);
        mark-is = g ∙ ap (λ (l : List (List ℕ)). mark_from (get_or l 1 [])) (sym bodies);
        end_is = omega (arith, step-size d (House ∷ []), step-size h [], (form-none (drop house.end book)).1);
      }

-- ---- none stands there

pub rest-none : (book : List ℕ) (place : ℕ) → (stands Dates (drop place book) || stands House (drop place book)) ≡ false → RestIs book place (record { days = Always; mark = Unmarked; end = place })
unfolding days_from mark_from
rest-none book place e =
    let rest : List ℕ = drop place book in
    let n = neither (stands Dates rest) (stands House rest) e in
    let d = due-at (due-out {due = Dates} n.0) in
    let h = due-at (due-out {due = House} n.1) in
    rest-is d h (sym (ap days_from (d.body ∙ (left_out Dates rest n.0).2))) (sym (ap mark_from (h.body ∙ (left_out House rest n.1).2)))

-- ---- a field is refused, after those read

pub field-refused : {book : List ℕ} {place : ℕ} {due : Due} {r : Refusal} (dues : List Due) → DueRead book place due (Err r) → number_of r ≡ form_refusal (due ∷ dues) (drop place book)
field-refused {book} {place} {due} {r} dues read = sym (form-refused due dues (drop place book) (sym read.number) (λ z. omega (arith, z, number-some r)))
