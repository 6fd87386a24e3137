-- The format of a cue (document 01, "Cue book, folding, lines"; document 02, (viii) and (xiv)): its value, its fields, its bytes, what it may be, when it plays, and who sees it.
use Rattle.std.specs.Prelude.{◌≡◌, ℕ, ◌≤◌, Bool, true, false, cond, not, ◌&&◌, ◌||◌, List, [], ◌∷◌, ◌++◌, length, get_or, eqb, leb}
use Rattle.roles.specs.Roles.{guest}
use Rattle.calendar.specs.Calendar.{days_refusal}
use Rattle.cue_fields.specs.declared.Due.{Due}
use Rattle.cue_fields.specs.declared.Due.TheVariants.{Phrase, Ordinal, Title, Dates, House}
use Rattle.cue_fields.specs.Field.{two_bytes, number_in, first_in, last_in, mark_in}
use Rattle.cue_fields.specs.Form.{form_bytes}
use Rattle.cues.specs.declared.Days.{Days}
use Rattle.cues.specs.declared.Days.TheVariants.{Always, Within}
use Rattle.cues.specs.declared.Mark.{Mark}
use Rattle.cues.specs.declared.Mark.TheVariants.{Unmarked, Open, HouseOnly}
use Rattle.cues.specs.declared.Choice.{Choice}

-- a cue: the phrase, which of its occurrences is meant (1 is the first), the title to show, the days on which it plays, always or from a first to a last one, and its mark: none, open, or house only
pub record Cue : Type 0 where
  pub phrase : List ℕ
  pub ordinal : ℕ
  pub title : List ℕ
  pub days : Days
  pub mark : Mark

-- the cue of these five
abbrev pub cue_with : List ℕ → ℕ → List ℕ → Days → Mark → Cue
cue_with phrase ordinal title days mark = record { phrase = phrase; ordinal = ordinal; title = title; days = days; mark = mark }

-- ---- its fields and its bytes

-- its fields, in this order, and those before its title
abbrev pub cue_form : List Due
cue_form = Phrase ∷ Ordinal ∷ Title ∷ Dates ∷ House ∷ []

abbrev pub head_form : List Due
head_form = Phrase ∷ Ordinal ∷ []

-- the body of dates, which is empty where the field is left out since the cue plays always; and the days that a body is
abbrev pub days_body : Days → List ℕ
days_body Always = []
days_body (Within first last) = two_bytes first ++ two_bytes last

unfoldable pub days_from : List ℕ → Days
unfolding number_in
days_from [] = Always
days_from (byte ∷ bytes) = Within (first_in (byte ∷ bytes)) (last_in (byte ∷ bytes))

-- the body of a house field, which is empty where the field is left out; a cue that carries 0 is as open as one without the field, and keeps it. And the mark that a body is
abbrev pub mark_body : Mark → List ℕ
mark_body Unmarked = []
mark_body Open = 0 ∷ []
mark_body HouseOnly = 1 ∷ []

unfoldable pub mark_from : List ℕ → Mark
mark_from [] = Unmarked
mark_from (byte ∷ bytes) = cond (eqb (mark_in (byte ∷ bytes)) 0) Open HouseOnly

-- the bodies of its fields, and the cue that such bodies are
abbrev pub cue_bodies : Cue → List (List ℕ)
cue_bodies c = c.phrase ∷ two_bytes c.ordinal ∷ c.title ∷ days_body c.days ∷ mark_body c.mark ∷ []

abbrev pub cue_from : List (List ℕ) → Cue
cue_from bodies = cue_with (get_or bodies 0 []) (number_in (get_or bodies 1 [])) (get_or bodies 2 []) (days_from (get_or bodies 3 [])) (mark_from (get_or bodies 4 []))

-- its bytes
unfoldable pub cue_bytes : Cue → List ℕ
unfolding form_bytes
cue_bytes c = form_bytes cue_form (cue_bodies c)

-- ---- what a cue may be

-- the refusal of its days, 0 for none: a day that the calendar has not, or a first one after the last (16)
abbrev pub dates_refusal : Days → ℕ
dates_refusal Always = 0
dates_refusal (Within first last) = days_refusal first last

-- a phrase of 1 to 1,024, an ordinal of 1 to 65,535, a title of 0 to 200, and days that are not refused
pub record Valid (c : Cue) : Type 0 where
  pub some : 1 ≤ length c.phrase
  pub short : length c.phrase ≤ 1024
  pub named : 1 ≤ c.ordinal
  pub small : c.ordinal ≤ 65535
  pub shown : length c.title ≤ 200
  pub dated : dates_refusal c.days ≡ 0

-- ---- when it plays

-- whether a day is one of these: the first and the last are
abbrev pub days_hold : ℕ → Days → Bool
days_hold day Always = true
days_hold day (Within first last) = leb first day && leb day last

-- whether a cue plays on a day
abbrev pub plays_on : ℕ → Cue → Bool
plays_on day c = days_hold day c.days

-- ---- who sees it

-- whether a cue with this mark is open
abbrev pub is_open : Mark → Bool
is_open Unmarked = true
is_open Open = true
is_open HouseOnly = false

-- whether a role sees it: a guest sees open cues only
abbrev pub sees : ℕ → Mark → Bool
sees role mark = is_open mark || not (eqb role guest)

-- the same of a cue
abbrev pub seen_by : ℕ → Cue → Bool
seen_by role c = sees role c.mark

-- whether a cue with this mark and these days is chosen: the role sees it, and it plays on the day
abbrev pub is_chosen : Choice → Mark → Days → Bool
is_chosen who mark days = sees who.role mark && days_hold who.day days
