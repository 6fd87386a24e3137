-- A book read field by field: an answer taken apart, whether the field stands there or is left out; each step moves the place, and the fields that are left are read there. Assumes nothing.
use mathlib.Core.Path.{◌≡◌, refl, sym, ap, ap₂, ◌∙◌}
use Prim.Native.Nat.{ℕ, ◌+◌, ◌-◌, ◌≤◌}
use native.Mathlib.Omega.{arith}
use mathlib.Core.Bool.{true, false, false≢true}
use mathlib.Core.List.{List, [], ◌∷◌}
use lib.ListN.{length, take, drop}
use Rattle.std.specs.Prelude.{Result, Ok}
use Rattle.matching.specs.declared.refusal.Refusal.{Refusal}
use Rattle.matching.proofs.CaseAnalysis.{by-test}
use Rattle.cue_fields.specs.declared.Due.{Due}
use Rattle.cue_fields.specs.declared.Span.{Span}
use Rattle.cue_fields.specs.Field.{span, bytes_in, FieldRead}
use Rattle.cue_fields.specs.Form.{stands, due_refusal, due_size, due_body, after_due, due_at, DueRead, form_refusal, form_size, form_bodies}
use Rattle.cue_fields.proofs.Fields.{after-field, body_at, body-inside}
use Rattle.cue_fields.proofs.Form.{standing, left_out, form-next}

-- ---- an answer at a place, by whether the field stands there

module _ {book : List ℕ} {place : ℕ} {due : Due} where
  -- a field that is read is what is due
  pub due-stands : stands due (drop place book) ≡ true → {r : Result Span Refusal} → FieldRead book place due r → DueRead book place due r
  unfolding due_at
  due-stands s read =
      let m = standing due (drop place book) s in
      record { answer = read.answer ∙ rw s; number = read.number ∙ sym m.0; meant = read.meant ∙ rw (m.0, m.2) }

  -- one that is left out has the empty body there
  pub due-out : stands due (drop place book) ≡ false → DueRead book place due (Ok (span place place))
  unfolding due_at
  due-out s =
      let m = left_out due (drop place book) s in
      let none : place - place ≡ 0 = omega arith in
      record { answer = rw s; number = sym m.0; meant = rw (m.0, m.2) (ap (λ (n : ℕ). take n (drop place book) ∷ []) none) }

-- ---- an answer taken apart

-- the field was read or left out: its body stands there, and the next one is due where it ends
pub record DueAt (book : List ℕ) (place : ℕ) (due : Due) (s : Span) : Type 0 where
  pub none : due_refusal due (drop place book) ≡ 0
  pub start_is : stands due (drop place book) ≡ true → s.start ≡ place + 3
  pub end_is : s.end ≡ place + due_size due (drop place book)
  pub body : bytes_in book s ≡ due_body due (drop place book)
  pub ordered : s.start ≤ s.end
  pub inside : stands due (drop place book) ≡ true → s.end ≤ length book
  pub no-further : place ≤ length book → s.end ≤ length book

-- a field that does not stand there is the empty one
pub passed_over : {book : List ℕ} {place : ℕ} {due : Due} {r : Result Span Refusal} → DueRead book place due r → stands due (drop place book) ≡ false → r ≡ Ok (span place place)
unfolding due_at
passed_over read s = read.answer ∙ rw s

module _ {book : List ℕ} {place : ℕ} {due : Due} {s : Span} (read : DueRead book place due (Ok s)) where
  -- it stands there, so that it was read
  field-read : stands due (drop place book) ≡ true → FieldRead book place due (Ok s)
  unfolding due_at
  field-read t =
      let m = standing due (drop place book) t in
      record { answer = read.answer ∙ rw t; number = read.number ∙ m.0; meant = read.meant ∙ rw (m.0, m.2) }

  empty : stands due (drop place book) ≡ false → s ≡ span place place
  empty t = let same : Ok s ≡ Ok (span place place) = passed_over read t in cc

  pub due-at : DueAt book place due s
  due-at =
      by-test (λ t. (stands due (drop place book) ≡ t) → DueAt book place due s) (stands due (drop place book))
      (λ _ t.
      let b = body_at (field-read t) in
      let m = standing due (drop place book) t in
      let i = body-inside b in
      record {
        none = m.0 ∙ b.none;
        start_is = λ _. ap (λ (p : Span). p.start) b.is;
        end_is = omega (arith, ap (λ (p : Span). p.end) b.is, m.1);
        body = b.body ∙ sym m.2;
        ordered = i.0;
        inside = λ _. i.1;
        no-further = λ _. i.1;
      })
      (λ _ t.
      let m = left_out due (drop place book) t in
      let is = empty t in
      let no : place - place ≡ 0 = omega arith in
      record {
        none = m.0;
        start_is = λ u. absurd (false≢true (sym t ∙ u));
        end_is = omega (arith, ap (λ (p : Span). p.end) is, m.1);
        body = rw (is, no) (sym m.2);
        ordered = rw is (omega arith);
        inside = λ u. absurd (false≢true (sym t ∙ u));
        no-further = λ h. rw is h;
      })
      refl

-- ---- a step from a place to the next

module _ {book : List ℕ} {place : ℕ} {due : Due} {s : Span} (d : DueAt book place due s) where
  step-rest : drop s.end book ≡ after_due due (drop place book)
  step-rest = ap (λ (k : ℕ). drop k book) d.end_is ∙ after-field book place (due_size due (drop place book))

  module _ (dues : List Due) where
    pub step-refusal : form_refusal (due ∷ dues) (drop place book) ≡ form_refusal dues (drop s.end book)
    step-refusal = form-next due dues (drop place book) d.none ∙ ap (form_refusal dues) (sym step-rest)

    pub step-size : place + form_size (due ∷ dues) (drop place book) ≡ s.end + form_size dues (drop s.end book)
    unfolding form_size
    step-size = omega (arith, d.end_is, ap (form_size dues) step-rest)

    pub step-bodies : form_bodies (due ∷ dues) (drop place book) ≡ bytes_in book s ∷ form_bodies dues (drop s.end book)
    unfolding form_bodies
    step-bodies = ap₂ (λ (x : List ℕ) (l : List (List ℕ)). x ∷ l) (sym d.body) (ap (form_bodies dues) (sym step-rest))
