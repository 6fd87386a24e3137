-- The answers of the cue book where an enum cannot pass, as to C: the number of document 01, and 0 in all else where it is a refusal. A part is a start and a length.
use Rattle.std.specs.Prelude.{ℕ, ◌-◌, cond, List, length, drop, eqb, ltb, Option, Some, None, Result, Ok, Err}
use Rattle.matching.specs.declared.refusal.Refusal.{Refusal}
use Rattle.matching.specs.declared.refusal.Refusal.TheVariants.{CutField, WrongTag}
use Rattle.matching.specs.Results.{number_of}
use Rattle.cue_fields.specs.declared.Due.{Due}
use Rattle.cue_fields.specs.declared.Due.TheVariants.{Phrase, Ordinal, Title, Dates, House}
use Rattle.cue_fields.specs.declared.Span.{Span}
use Rattle.cue_fields.specs.Field.{field_at}
use Rattle.cues.specs.declared.Cue.{Cue}
use Rattle.cues.specs.declared.Days.{Days}
use Rattle.cues.specs.declared.Days.TheVariants.{Always, Within}
use Rattle.cues.specs.declared.Mark.{Mark}
use Rattle.cues.specs.declared.Mark.TheVariants.{Unmarked, Open, HouseOnly}
use Rattle.plain.specs.declared.PlainField.{PlainField}
use Rattle.plain.specs.declared.PlainDays.{PlainDays}
use Rattle.plain.specs.declared.PlainMark.{PlainMark}
use Rattle.plain.specs.declared.PlainCue.{PlainCue}

-- ---- a field

-- the answer for a number that is no tag: three header bytes present (7); no byte is its tag (8)
abbrev pub unknown_at : List ℕ → ℕ → Result Span Refusal
unknown_at book place = Err (cond (ltb (length (drop place book)) 3) CutField WrongTag)

-- the field that a number names by its tag: 1 phrase, 2 ordinal, 3 title, 4 dates (document 02, (viii)), 5 house mark (document 02, (xiv)); and none
abbrev pub due_named : ℕ → Option Due
due_named due =
    cond (eqb due 1) (Some Phrase)
    (cond (eqb due 2) (Some Ordinal)
    (cond (eqb due 3) (Some Title)
    (cond (eqb due 4) (Some Dates)
    (cond (eqb due 5) (Some House)
    None))))

-- the answer for such a field, and for none
abbrev pub named_at : List ℕ → ℕ → Option Due → Result Span Refusal
named_at book place (Some due) = field_at book place due
named_at book place None = unknown_at book place

-- the answer for the field that a number names
unfoldable pub field_due : List ℕ → ℕ → ℕ → Result Span Refusal
unfolding field_at
field_due book place due = named_at book place (due_named due)

-- a field: its body's start and length, and the place after it
abbrev pub field_passed : Result Span Refusal → PlainField
field_passed (Ok s) = record { refusal = 0; start = s.start; len = s.end - s.start; end = s.end }
field_passed (Err r) = record { refusal = number_of r; start = 0; len = 0; end = 0 }

-- ---- a cue

-- its days: 1 with the first and the last where it has dates, and 0 three times where it plays always
abbrev pub days_passed : Days → PlainDays
days_passed Always = record { dated = 0; first = 0; last = 0 }
days_passed (Within first last) = record { dated = 1; first = first; last = last }

-- its mark: 1 where it has one, and 1 where it is for the house only
abbrev pub mark_passed : Mark → PlainMark
mark_passed Unmarked = record { marked = 0; house = 0 }
mark_passed Open = record { marked = 1; house = 0 }
mark_passed HouseOnly = record { marked = 1; house = 1 }

-- a cue: its ordinal, its days, its mark, its phrase's and its title's start and length, and the place after it
abbrev pub cue_passed : Result Cue Refusal → PlainCue
cue_passed (Ok c) =
    record {
      refusal = 0;
      ordinal = c.ordinal;
      dated = (days_passed c.days).dated;
      first = (days_passed c.days).first;
      last = (days_passed c.days).last;
      marked = (mark_passed c.mark).marked;
      house = (mark_passed c.mark).house;
      phrase_start = c.phrase.start;
      phrase_len = c.phrase.end - c.phrase.start;
      title_start = c.title.start;
      title_len = c.title.end - c.title.start;
      end = c.end;
    }
cue_passed (Err r) =
    record { refusal = number_of r; ordinal = 0; dated = 0; first = 0; last = 0; marked = 0; house = 0; phrase_start = 0; phrase_len = 0; title_start = 0; title_len = 0; end = 0 }

-- the days of a cue to be written, from plain numbers: where the first number is 0 it plays always, and the two others play no part
unfoldable pub days_given : ℕ → ℕ → ℕ → Days
days_given dated first last = cond (eqb dated 0) Always (Within first last)
