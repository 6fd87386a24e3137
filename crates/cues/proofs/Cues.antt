-- A cue read field by field at places of a book, its answer taken apart, and where its phrase and its title stand. Assumes nothing.
use mathlib.Core.Path.{◌≡◌, refl, sym, ap, ap₂, ◌∙◌}
use Prim.Native.Nat.{ℕ, ◌+◌, ◌-◌, ◌≤◌, ◌<◌}
use native.Mathlib.Omega.{arith}
use mathlib.Core.List.{List, [], ◌∷◌}
use lib.ListN.{length, drop, length-drop}
use lib.Dec.{leb}
use borrow.Author.Tests.{eq-eqb, ne_eqb, leb-true}
use Rattle.std.specs.Prelude.{Result, Ok, Err}
use Rattle.matching.specs.declared.refusal.Refusal.{Refusal}
use Rattle.matching.specs.Results.{number_of}
use Rattle.matching.proofs.CaseAnalysis.{both}
use Rattle.matching.proofs.Find.{number-some}
use Rattle.cue_fields.specs.declared.Due.TheVariants.{Phrase, Ordinal, Title}
use Rattle.cue_fields.specs.declared.Span.{Span}
use Rattle.cue_fields.specs.Field.{number_in, field_length, field_size, field_body, after_field, refusal_named, span, bytes_in}
use Rattle.cue_fields.specs.Form.{due_size, due_body, form_refusal, form_size, after_form, form_bodies}
use Rattle.cue_fields.proofs.Fields.{Fielded, after-field, named_back}
use Rattle.cue_fields.proofs.Form.{due-fielded, form-none, form-fine, form-gap, form-inside, after_next}
use Rattle.cue_fields.proofs.Steps.{DueAt, step-refusal, step-size, step-bodies}
use Rattle.cues.specs.declared.Cue as found
use Rattle.cues.specs.declared.Rest.{Rest}
use Rattle.cues.specs.Cue.{Cue, cue_with, cue_form, head_form, cue_from}
use Rattle.cues.specs.Reading.{cue_refusal, cue_size, cue_of}
use Rattle.cues.specs.Rest.{tail_form, RestIs}
use Rattle.cues.specs.Places.{cue_meant, start_of_title, title_length, end_of_title, cue_placed, cue_at, CueRead}

-- ---- a cue, from what is left of the book

module _ (rest : List ℕ) where
  -- a refusal from 10 on is 16
  pub cue-gap : 10 ≤ cue_refusal rest → cue_refusal rest ≡ 16
  unfolding cue_refusal
  cue-gap h = form-gap cue_form rest h

  -- one that is read begins with a phrase and an ordinal, takes some bytes, and no more than there are
  pub cue-phrase : cue_refusal rest ≡ 0 → Fielded Phrase rest
  unfolding cue_refusal
  cue-phrase e = due-fielded Phrase rest refl (form-fine Phrase (Ordinal ∷ Title ∷ tail_form) rest e).0

  pub cue-ordinal : cue_refusal rest ≡ 0 → Fielded Ordinal (after_field rest)
  unfolding cue_refusal due_size
  cue-ordinal e =
      let f = (form-fine Phrase (Ordinal ∷ Title ∷ tail_form) rest e).1 in
      due-fielded Ordinal (after_field rest) refl (form-fine Ordinal (Title ∷ tail_form) (after_field rest) f).0

  pub cue-some : cue_refusal rest ≡ 0 → length rest ≡ 0 → ⊥
  cue-some e z = omega (arith, (cue-phrase e).header)

  pub cue-inside : cue_refusal rest ≡ 0 → cue_size rest ≤ length rest
  unfolding cue_refusal
  cue-inside e = form-inside cue_form rest e

  -- its ordinal is in the body of the second field
  pub ordinal-body : number_in (field_body (after_field rest)) ≡ (cue_of rest).ordinal
  unfolding cue_of form_bodies due_size due_body
  ordinal-body = refl

  -- its title is the body of the field after the first two, and ends no later than the cue does
  after-head : after_form head_form rest ≡ after_field (after_field rest)
  unfolding form_size due_size
  after-head = after_next Phrase (Ordinal ∷ []) rest ∙ after_next Ordinal [] (after_field rest)

  pub title-body : field_body (after_form head_form rest) ≡ (cue_of rest).title
  unfolding cue_of form_bodies due_size due_body
  title-body = ap field_body after-head

  pub title-last : end_of_title rest ≤ cue_size rest
  unfolding form_size due_size
  title-last = omega (arith, ap field_length after-head)

-- ---- where a cue stands in the book

module _ {book : List ℕ} {place : ℕ} where
  pub cue-refused : {r : Refusal} → number_of r ≡ cue_refusal (drop place book) → CueRead book place (Err r)
  unfolding cue_at
  cue-refused {r} e =
      let off = ne_eqb (cue_refusal (drop place book)) 0 (λ z. omega (arith, e, z, number-some r)) in
      record { answer = rw off (ap Err (sym (named_back r) ∙ ap refusal_named e)); number = e; meant = rw off }

-- its fields, read one after another: the cue's refusal is that of the fields after those read
module _ {book : List ℕ} {place : ℕ} {phrase : Span} (p : DueAt book place Phrase phrase) where
  pub after-phrase : cue_refusal (drop place book) ≡ form_refusal (Ordinal ∷ Title ∷ tail_form) (drop phrase.end book)
  unfolding cue_refusal
  after-phrase = step-refusal p (Ordinal ∷ Title ∷ tail_form)

  module _ {number : Span} (o : DueAt book phrase.end Ordinal number) where
    pub after-ordinal : cue_refusal (drop place book) ≡ form_refusal (Title ∷ tail_form) (drop number.end book)
    after-ordinal = after-phrase ∙ step-refusal o (Title ∷ tail_form)

    module _ {title : Span} (t : DueAt book number.end Title title) where
      pub after-title : cue_refusal (drop place book) ≡ form_refusal tail_form (drop title.end book)
      after-title = after-ordinal ∙ step-refusal t tail_form

      -- and those behind the title together
      module _ {rest : Rest} (w : RestIs book title.end rest) where
        fields-none : cue_refusal (drop place book) ≡ 0
        fields-none = after-title ∙ w.none

        fields_value : cue_with (bytes_in book phrase) (number_in (bytes_in book number)) (bytes_in book title) rest.days rest.mark ≡ cue_of (drop place book)
        unfolding cue_of
        fields_value =
            let third = step-bodies t tail_form in
            let second = step-bodies o (Title ∷ tail_form) ∙ ap (λ (l : List (List ℕ)). bytes_in book number ∷ l) third in
            ap₂ (cue_with (bytes_in book phrase) (number_in (bytes_in book number)) (bytes_in book title)) w.days-are w.mark-is
            ∙ ap cue_from (sym (step-bodies p (Ordinal ∷ Title ∷ tail_form) ∙ ap (λ (l : List (List ℕ)). bytes_in book phrase ∷ l) second))

        -- where its phrase stands, where its title stands, and where it ends
        phrase-is : phrase ≡ span (place + 3) (place + field_size (drop place book))
        unfolding due_size
        phrase-is = ap₂ span (p.start_is refl) p.end_is

        title-is : title ≡ span (place + start_of_title (drop place book)) (place + end_of_title (drop place book))
        unfolding due_size
        title-is =
            let at : number.end ≡ place + form_size head_form (drop place book) = omega (arith, step-size p (Ordinal ∷ []), step-size o [], (form-none (drop number.end book)).1) in
            let head : drop number.end book ≡ after_form head_form (drop place book) = ap (λ (k : ℕ). drop k book) at ∙ after-field book place (form_size head_form (drop place book)) in
            let starts : title.start ≡ place + start_of_title (drop place book) = omega (arith, at, t.start_is refl) in
            let ends : title.end ≡ place + end_of_title (drop place book) = omega (arith, at, t.end_is, ap field_length head) in
            ap₂ span starts ends

        cue-ends : rest.end ≡ place + cue_size (drop place book)
        cue-ends = omega (arith, step-size p (Ordinal ∷ Title ∷ tail_form), step-size o (Title ∷ tail_form), step-size t tail_form, w.end_is)

        pub cue-read : {ordinal : ℕ} → ordinal ≡ number_in (bytes_in book number)
            → CueRead book place (Ok (record { phrase = phrase; ordinal = ordinal; title = title; days = rest.days; mark = rest.mark; end = rest.end }))
        unfolding cue_at
        cue-read {ordinal} e =
            let left : List ℕ = drop place book in
            let on = eq-eqb (cue_refusal left) 0 fields-none in
            let value : cue_with (bytes_in book phrase) ordinal (bytes_in book title) rest.days rest.mark ≡ cue_of left =
            ap (λ (n : ℕ). cue_with (bytes_in book phrase) n (bytes_in book title) rest.days rest.mark) e ∙ fields_value in
            record {
              answer = rw on (rw (phrase-is, ap (λ (c : Cue). c.ordinal) value, title-is, ap (λ (c : Cue). c.days) value, ap (λ (c : Cue). c.mark) value, cue-ends) refl);
              number = sym fields-none;
              meant = rw on (ap (λ (c : Cue). c ∷ []) value);
            }

-- ---- a cue's answer taken apart

-- the cue was read: it stands there
pub record CueAt (book : List ℕ) (place : ℕ) (c : found.Cue) : Type 0 where
  pub none : cue_refusal (drop place book) ≡ 0
  pub is : c ≡ cue_placed place (drop place book)
  pub meant : cue_meant book c ≡ cue_of (drop place book)

-- where the phrase and the title of an answer start and end, 0 for a refusal
pub phrase_of : Result found.Cue Refusal → ℕ
phrase_of (Ok c) = c.phrase.start
phrase_of (Err r) = 0

pub end_of_phrase : Result found.Cue Refusal → ℕ
end_of_phrase (Ok c) = c.phrase.end
end_of_phrase (Err r) = 0

pub title_of : Result found.Cue Refusal → ℕ
title_of (Ok c) = c.title.start
title_of (Err r) = 0

pub title_stops : Result found.Cue Refusal → ℕ
title_stops (Ok c) = c.title.end
title_stops (Err r) = 0

pub cue-at : {book : List ℕ} {place : ℕ} {c : found.Cue} → CueRead book place (Ok c) → CueAt book place c
unfolding cue_at
cue-at {book} {place} {c} read =
    let none : cue_refusal (drop place book) ≡ 0 = sym read.number in
    let on = eq-eqb (cue_refusal (drop place book)) 0 none in
    let same : Ok c ≡ Ok (cue_placed place (drop place book)) = read.answer ∙ rw on in
    let meant : cue_meant book c ∷ [] ≡ cue_of (drop place book) ∷ [] = read.meant ∙ rw on in
    record { none = none; is = cc; meant = cc }

-- the phrase lies in the book, and its length is allowed
pub record PhraseInside (book : List ℕ) (phrase : Span) : Type 0 where
  pub ordered : phrase.start ≤ phrase.end
  pub inside : phrase.end ≤ length book
  pub some : 1 ≤ phrase.end - phrase.start
  pub short : phrase.end - phrase.start ≤ 1024

pub phrase-inside : {book : List ℕ} {place : ℕ} {c : found.Cue} → CueAt book place c → PhraseInside book c.phrase
phrase-inside {book} {place} {c} a =
    let f = cue-phrase (drop place book) a.none in
    let lengths = both (leb 1 (field_length (drop place book))) (leb (field_length (drop place book)) 1024) f.lengths in
    let some = leb-true 1 (field_length (drop place book)) lengths.0 in
    let short = leb-true (field_length (drop place book)) 1024 lengths.1 in
    let starts : c.phrase.start ≡ place + 3 = ap (λ (d : found.Cue). d.phrase.start) a.is in
    let ends : c.phrase.end ≡ place + field_size (drop place book) = ap (λ (d : found.Cue). d.phrase.end) a.is in
    record {
      ordered = omega arith;
      inside = omega (arith, f.whole, f.header, length-drop place book);
      some = omega arith;
      short = omega arith;
    }

-- the title's length, and that the cue ends further on
pub title-ends : {book : List ℕ} {place : ℕ} {c : found.Cue} → CueAt book place c → (c.title.end ≡ c.title.start + title_length (drop place book)) × (place < c.end)
title-ends {book} {place} a =
    (rw a.is (omega arith), omega (arith, ap (λ (d : found.Cue). d.end) a.is, title-last (drop place book)))
