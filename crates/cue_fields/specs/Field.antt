-- A field of a cue book (document 01, "Cue book, folding, lines"; document 02, (viii) and (xiv)): its bytes, and what reading it gives on every byte string, with the tests in the document's order. `rest` is what is
-- left of the book at the field.
use Rattle.std.specs.Prelude.{◌≡◌, ℕ, ◌+◌, ◌-◌, ◌*◌, ◌/◌, ◌%◌, Bool, cond, not, ◌&&◌, List, [], ◌∷◌, ◌++◌, length, get_or, take, drop, eqb, ltb, leb, Result, Ok, Err}
use Rattle.matching.specs.declared.refusal.Refusal.{Refusal}
use Rattle.matching.specs.declared.refusal.Refusal.TheVariants.{UnknownMethod, NoPhrase, LongPhrase, LongText, ShortScratch, ShortBuffer, CutField, WrongTag, BadField, LongBook, ShortEntries, NoOccurrence, LongCue, UnknownPage, NotForward, BadDate, BadStretch, BadList, NotAllowed}
use Rattle.matching.specs.Refusals.{Test, first_met}
use Rattle.matching.specs.Results.{refused_by}
use Rattle.calendar.specs.Calendar.{days_tests}
use Rattle.cue_fields.specs.declared.Due.{Due}
use Rattle.cue_fields.specs.declared.Due.TheVariants.{Phrase, Ordinal, Title, Dates, House}
use Rattle.cue_fields.specs.declared.Span.{Span}

-- ---- its bytes

-- a number in two bytes, high byte first
abbrev pub two_bytes : ℕ → List ℕ
two_bytes n = n / 256 ∷ n % 256 ∷ []

-- a field: a one-byte tag, a two-byte length and the body
abbrev pub field_bytes : ℕ → List ℕ → List ℕ
field_bytes tag body = tag ∷ (two_bytes (length body) ++ body)

-- ---- reading it

-- its tag
abbrev pub tag_of : Due → ℕ
tag_of Phrase = 1
tag_of Ordinal = 2
tag_of Title = 3
tag_of Dates = 4
tag_of House = 5

-- the lengths that its body may have
abbrev pub allowed : Due → ℕ → Bool
allowed Phrase n = leb 1 n && leb n 1024
allowed Ordinal n = eqb n 2
allowed Title n = leb n 200
allowed Dates n = eqb n 4
allowed House n = eqb n 1

-- the number whose two bytes stand at the front, high byte first; a byte that is missing counts as 0
unfoldable pub number_in : List ℕ → ℕ
number_in bytes = 256 * get_or bytes 0 0 + get_or bytes 1 0

-- the length that a field's header gives, its body, the bytes that it takes, and what is left after it
abbrev pub field_length : List ℕ → ℕ
field_length rest = number_in (drop 1 rest)

abbrev pub field_body : List ℕ → List ℕ
field_body rest = take (field_length rest) (drop 3 rest)

abbrev pub field_size : List ℕ → ℕ
field_size rest = 3 + field_length rest

abbrev pub after_field : List ℕ → List ℕ
after_field rest = drop (field_size rest) rest

-- the two days of dates: the first, and the last after it
abbrev pub first_in : List ℕ → ℕ
first_in body = number_in body

abbrev pub last_in : List ℕ → ℕ
last_in body = number_in (drop 2 body)

-- the mark of a house field, its one byte: 0 open, 1 house only
abbrev pub mark_in : List ℕ → ℕ
mark_in body = get_or body 0 0

-- the tests of its body's value: an ordinal is not 0 (9), dates are days of the calendar, the first not after the last (16), and a house mark is 0 or 1 (9)
abbrev pub value_tests : Due → List ℕ → List Test
value_tests Phrase body = []
value_tests Ordinal body = (eqb (number_in body) 0, 9) ∷ []
value_tests Title body = []
value_tests Dates body = days_tests (first_in body) (last_in body)
value_tests House body = (ltb 1 (mark_in body), 9) ∷ []

-- the tests of the bytes from the body onward, for a body of n bytes: body present (7), and its value
abbrev pub body_tests : Due → ℕ → List ℕ → List Test
body_tests due n bytes = (ltb (length bytes) n, 7) ∷ value_tests due (take n bytes)

-- the tests of a field: three header bytes present (7), tag (8), length (9), and those from the body onward
abbrev pub field_tests : Due → List ℕ → List Test
field_tests due rest =
    (ltb (length rest) 3, 7) ∷
    (not (eqb (get_or rest 0 0) (tag_of due)), 8) ∷
    (not (allowed due (field_length rest)), 9) ∷
    body_tests due (field_length rest) (drop 3 rest)

-- the refusal of a field, 0 for none
unfoldable pub field_refusal : Due → List ℕ → ℕ
unfolding number_in first_met
field_refusal due rest = first_met (field_tests due rest)

-- ---- the answer

-- the refusals, from number 1 on, and the one that has a number
abbrev pub refusals : List Refusal
refusals =
    UnknownMethod ∷ NoPhrase ∷ LongPhrase ∷ LongText ∷ ShortScratch ∷ ShortBuffer ∷ CutField ∷ WrongTag ∷ BadField ∷ LongBook ∷
    ShortEntries ∷ NoOccurrence ∷ LongCue ∷ UnknownPage ∷ NotForward ∷ BadDate ∷ BadStretch ∷ BadList ∷ NotAllowed ∷ []

abbrev pub refusal_named : ℕ → Refusal
refusal_named number = get_or refusals (number - 1) NotAllowed

-- the bytes of a book from a start up to an end
abbrev pub part : List ℕ → ℕ → ℕ → List ℕ
part book start end = take (end - start) (drop start book)

-- the part of these two ends, and the bytes of a part
abbrev pub span : ℕ → ℕ → Span
span start end = record { start = start; end = end }

abbrev pub bytes_in : List ℕ → Span → List ℕ
bytes_in book s = part book s.start s.end

-- the body that an answer means: the part of the book where it stands. A refusal means none
abbrev pub bodies_meant : List ℕ → Result Span Refusal → List (List ℕ)
bodies_meant book (Ok s) = bytes_in book s ∷ []
bodies_meant book (Err r) = []

-- the answer at a place: the body starts after the header's three bytes
unfoldable pub field_at : List ℕ → ℕ → Due → Result Span Refusal
unfolding field_refusal number_in
field_at book place due =
    cond (eqb (field_refusal due (drop place book)) 0)
    (Ok (span (place + 3) (place + field_size (drop place book))))
    (Err (refusal_named (field_refusal due (drop place book))))

-- what is read there, its number in document 01, and the body that it means
pub record FieldRead (book : List ℕ) (place : ℕ) (due : Due) (r : Result Span Refusal) : Type 0 where
  pub answer : r ≡ field_at book place due
  pub number : refused_by r ≡ field_refusal due (drop place book)
  pub meant : bodies_meant book r ≡ cond (eqb (field_refusal due (drop place book)) 0) (field_body (drop place book) ∷ []) []
