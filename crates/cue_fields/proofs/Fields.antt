-- The tests of a field: what is known where it is read (`Fielded`), its answer by its cases, and an answer taken apart. Assumes nothing.
use mathlib.Core.Path.{◌≡◌, refl, sym, ap, ap₂, ◌∙◌}
use Prim.Native.Nat.{ℕ, ◌+◌, ◌-◌, ◌≤◌, ◌<◌}
use native.Mathlib.Omega.{arith}
use mathlib.Core.Bool.{Bool, true, false, not}
use mathlib.Core.List.{List, [], ◌∷◌}
use lib.ListN.{length, get_or, take, drop, length-drop}
use lib.Seq.{drop-drop}
use lib.Dec.{eqb}
use borrow.Author.Tests.{eq-eqb, ne_eqb, eqb-true, ltb-false, lt-ltb, le-ltb}
use Rattle.std.specs.Prelude.{Result, Ok, Err}
use Rattle.matching.specs.declared.refusal.Refusal.{Refusal}
use Rattle.matching.specs.declared.refusal.Refusal.TheVariants.{UnknownMethod, NoPhrase, LongPhrase, LongText, ShortScratch, ShortBuffer, CutField, WrongTag, BadField, LongBook, ShortEntries, NoOccurrence, LongCue, UnknownPage, NotForward, BadDate, BadStretch, BadList, NotAllowed}
use Rattle.matching.specs.Refusals.{first_met}
use Rattle.matching.specs.Results.{number_of, refused_by}
use Rattle.matching.proofs.Find.{number-some}
use Rattle.matching.proofs.Refusals.{Passed, none-met, numbers_to, all-passed, gapped, met-gap}
use Rattle.cue_fields.specs.declared.Due.{Due}
use Rattle.cue_fields.specs.declared.Due.TheVariants.{Phrase, Ordinal, Title, Dates, House}
use Rattle.cue_fields.specs.declared.Span.{Span}
use Rattle.cue_fields.specs.Field.{tag_of, allowed, value_tests, field_tests, field_length, field_size, field_body, field_refusal, refusal_named, part, span, bytes_in, field_at, FieldRead}

-- ---- a field that is read

-- every refusal of a field is 7, 8, 9 or 16
field-numbers : (due : Due) (rest : List ℕ) → (numbers_to 16 (field_tests due rest) ≡ true) × (gapped 10 16 (field_tests due rest) ≡ true)
unfolding numbers_to gapped
field-numbers Phrase rest = (refl, refl)
field-numbers Ordinal rest = (refl, refl)
field-numbers Title rest = (refl, refl)
field-numbers Dates rest = (refl, refl)
field-numbers House rest = (refl, refl)

-- so one from 10 on is 16
pub field-gap : (due : Due) (rest : List ℕ) → 10 ≤ field_refusal due rest → field_refusal due rest ≡ 16
unfolding field_refusal
field-gap due rest h = met-gap 10 16 (field_tests due rest) (field-numbers due rest).1 (omega arith) h

-- the body's presence is tested before its value: a field cut within its body is refused with 7, whatever it would be worth
pub cut-first : (due : Due) (rest : List ℕ) → 3 ≤ length rest → get_or rest 0 0 ≡ tag_of due → allowed due (field_length rest) ≡ true → length rest < field_size rest → field_refusal due rest ≡ 7
unfolding field_refusal first_met
cut-first due rest header tag lengths cut =
    rw (le-ltb (length rest) 3 header, eq-eqb (get_or rest 0 0) (tag_of due) tag, lengths, lt-ltb (length (drop 3 rest)) (field_length rest) (omega (arith, header, length-drop 3 rest))) refl

-- what its tests say where all are passed
pub record Fielded (due : Due) (rest : List ℕ) : Type 0 where
  pub header : 3 ≤ length rest
  pub tag : get_or rest 0 0 ≡ tag_of due
  pub lengths : allowed due (field_length rest) ≡ true
  pub whole : field_size rest ≤ length rest
  pub value : first_met (value_tests due (field_body rest)) ≡ 0

-- a flag whose opposite was passed
passed : (flag : Bool) → not flag ≡ false → flag ≡ true
passed true e = refl
passed false e = sym e

pub fielded : (due : Due) (rest : List ℕ) → field_refusal due rest ≡ 0 → Fielded due rest
unfolding field_refusal Passed
fielded due rest e =
    let p = all-passed 16 (field_tests due rest) (field-numbers due rest).0 e in
    let header = ltb-false (length rest) 3 p.0 in
    record {
      header = header;
      tag = eqb-true (get_or rest 0 0) (tag_of due) (passed (eqb (get_or rest 0 0) (tag_of due)) p.1.0);
      lengths = passed (allowed due (field_length rest)) p.1.1.0;
      whole = omega (arith, header, ltb-false (length (drop 3 rest)) (field_length rest) p.1.1.1.0, length-drop 3 rest);
      value = none-met (value_tests due (field_body rest)) p.1.1.1.1;
    }

-- and nothing more is asked of it
pub field-fine : {due : Due} {rest : List ℕ} → Fielded due rest → field_refusal due rest ≡ 0
unfolding field_refusal first_met
field-fine {due} {rest} f =
    rw (le-ltb (length rest) 3 f.header, eq-eqb (get_or rest 0 0) (tag_of due) f.tag, f.lengths, le-ltb (length (drop 3 rest)) (field_length rest) (omega (arith, f.whole, length-drop 3 rest)))
    f.value

-- ---- its answer by its cases

-- what is left after some bytes more, by places of the book
pub after-field : (book : List ℕ) (place size : ℕ) → drop (place + size) book ≡ drop size (drop place book)
after-field book place size = sym (drop-drop size place book)

-- the body of a field that starts there
body-part : (book : List ℕ) (place n : ℕ) → part book (place + 3) (place + (3 + n)) ≡ take n (drop 3 (drop place book))
body-part book place n =
    let e : place + (3 + n) - (place + 3) ≡ n = omega arith in
    ap₂ (λ (k : ℕ) (l : List ℕ). take k l) e (after-field book place 3)

-- the refusal that has a refusal's number is that one
pub named_back : (r : Refusal) → refusal_named (number_of r) ≡ r
named_back UnknownMethod = refl
named_back NoPhrase = refl
named_back LongPhrase = refl
named_back LongText = refl
named_back ShortScratch = refl
named_back ShortBuffer = refl
named_back CutField = refl
named_back WrongTag = refl
named_back BadField = refl
named_back LongBook = refl
named_back ShortEntries = refl
named_back NoOccurrence = refl
named_back LongCue = refl
named_back UnknownPage = refl
named_back NotForward = refl
named_back BadDate = refl
named_back BadStretch = refl
named_back BadList = refl
named_back NotAllowed = refl

module _ {book : List ℕ} {place : ℕ} {due : Due} where
  pub at-refused : (r : Refusal) → number_of r ≡ field_refusal due (drop place book) → FieldRead book place due (Err r)
  unfolding field_at
  at-refused r e =
      let off = ne_eqb (field_refusal due (drop place book)) 0 (λ z. omega (arith, e, z, number-some r)) in
      record { answer = rw off (ap Err (sym (named_back r) ∙ ap refusal_named e)); number = e; meant = rw off }

  pub at_body : field_refusal due (drop place book) ≡ 0 → (s : Span) → s ≡ span (place + 3) (place + field_size (drop place book)) → FieldRead book place due (Ok s)
  unfolding field_at
  at_body e s is =
      let on = eq-eqb (field_refusal due (drop place book)) 0 e in
      record { answer = rw (on, is); number = sym e; meant = rw (on, is) (ap (λ (b : List ℕ). b ∷ []) (body-part book place (field_length (drop place book)))) }

-- the same by what is left of the book there: its refusal, and its body's length
module _ (book : List ℕ) (place : ℕ) (due : Due) {rest : List ℕ} (left : rest ≡ drop place book) where
  pub rest-refused : {r : Refusal} → number_of r ≡ field_refusal due rest → FieldRead book place due (Err r)
  rest-refused {r} e = at-refused r (e ∙ ap (field_refusal due) left)

  module _ {n : ℕ} (none : 0 ≡ field_refusal due rest) (is : n ≡ field_length rest) where
    pub rest-body : FieldRead book place due (Ok (span (place + 3) (place + 3 + n)))
    rest-body = let ends : place + 3 + n ≡ place + field_size (drop place book) = omega (arith, is, ap field_length left) in at_body (ap (field_refusal due) (sym left) ∙ sym none) _ (ap (span (place + 3)) ends)

    pub rest-inside : place + 3 + n ≤ length book
    rest-inside = let f = fielded due rest (sym none) in omega (arith, is, f.whole, f.header, ap length left, length-drop place book)

-- past the book's end nothing is left, so that the header is cut
pub past-refused : (book : List ℕ) (place : ℕ) (due : Due) → length book < place → FieldRead book place due (Err CutField)
unfolding field_refusal first_met
past-refused book place due h = at-refused CutField (rw (lt-ltb (length (drop place book)) 3 (omega (arith, length-drop place book))))

-- ---- an answer taken apart

-- the field was read: its body stands there
pub record BodyAt (book : List ℕ) (place : ℕ) (due : Due) (s : Span) : Type 0 where
  pub none : field_refusal due (drop place book) ≡ 0
  pub is : s ≡ span (place + 3) (place + field_size (drop place book))
  pub body : bytes_in book s ≡ field_body (drop place book)

-- what an answer means is a list of one or none: its first, or else that other
unfoldable pub first_of : {A : Type 0} → A → List A → A
first_of other [] = other
first_of other (x ∷ xs) = x

-- where the body that was read starts and ends, 0 for a refusal
unfoldable pub start_of : Result Span Refusal → ℕ
start_of (Ok s) = s.start
start_of (Err r) = 0

unfoldable pub end_of : Result Span Refusal → ℕ
end_of (Ok s) = s.end
end_of (Err r) = 0

pub body_at : {book : List ℕ} {place : ℕ} {due : Due} {s : Span} → FieldRead book place due (Ok s) → BodyAt book place due s
unfolding field_at
body_at {book} {place} {due} {s} read =
    let none : field_refusal due (drop place book) ≡ 0 = sym read.number in
    let on = eq-eqb (field_refusal due (drop place book)) 0 none in
    let same : Ok s ≡ Ok (span (place + 3) (place + field_size (drop place book))) = read.answer ∙ rw on in
    let meant : bytes_in book s ∷ [] ≡ field_body (drop place book) ∷ [] = read.meant ∙ rw on in
    record { none = none; is = cc; body = cc }

-- it was refused: the number is the refusal's
pub refused-some : {r : Result Span Refusal} {refusal : Refusal} → r ≡ Err refusal → refused_by r ≡ 0 → ⊥
refused-some {r} {refusal} e z = let is : refused_by r ≡ number_of refusal = ap refused_by e in omega (arith, z, is, number-some refusal)

-- the body lies in the book, and its start is no later than its end
pub body-inside : {book : List ℕ} {place : ℕ} {due : Due} {s : Span} → BodyAt book place due s → (s.start ≤ s.end) × (s.end ≤ length book)
body-inside {book} {place} {due} b =
    let f = fielded due (drop place book) b.none in
    rw b.is (omega arith, omega (arith, f.whole, f.header, length-drop place book))
