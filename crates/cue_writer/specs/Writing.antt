-- Writing a cue (document 01, "Cue book, folding, lines"; document 02, (viii) and (xiv)): it stands at the buffer's start, or the refusal is given.
use Rattle.std.specs.Prelude.{◌≡◌, ℕ, Bool, cond, not, List, [], ◌∷◌, ◌++◌, length, drop, eqb, ltb}
use Rattle.matching.specs.Refusals.{Test, first_met}
use Rattle.cue_fields.specs.declared.Due.{Due}
use Rattle.cue_fields.specs.Field.{tag_of, two_bytes}
use Rattle.cue_fields.specs.Form.{is_left_out}
use Rattle.cues.specs.declared.Mark.{Mark}
use Rattle.cues.specs.declared.Mark.TheVariants.{Unmarked, HouseOnly}
use Rattle.cues.specs.Cue.{Cue, cue_bytes, dates_refusal}
use Rattle.matching.specs.declared.Answer.{Answer}

-- the mark of a cue to be written, which is told to be open (0) or for the house only (1): an open one is written without the field
unfoldable pub mark_given : ℕ → Mark
mark_given house = cond (eqb house 0) Unmarked HouseOnly

-- the refusals of a cue in a buffer of that capacity, with this number for open or house only: first of all the days, which are the call's own date (16; document 02, (viii)); then a phrase of 0 bytes (2) or above 1,024 (3), an ordinal outside 1 to 65,535, a title above 200 or another number than these two (9), longer than the buffer (13)
abbrev pub write_tests : Cue → ℕ → ℕ → List Test
write_tests c house capacity =
    (not (eqb (dates_refusal c.days) 0), 16) ∷
    (eqb (length c.phrase) 0, 2) ∷
    (ltb 1024 (length c.phrase), 3) ∷
    (eqb c.ordinal 0, 9) ∷
    (ltb 65535 c.ordinal, 9) ∷
    (ltb 200 (length c.title), 9) ∷
    (ltb 1 house, 9) ∷
    (ltb capacity (length (cue_bytes c)), 13) ∷
    []

-- the first of them, 0 for none
unfoldable pub write_refusal : Cue → ℕ → ℕ → ℕ
unfolding first_met cue_bytes
write_refusal c house capacity = first_met (write_tests c house capacity)

-- whether it is written
abbrev pub writes : Cue → ℕ → ℕ → Bool
writes c house capacity = eqb (write_refusal c house capacity) 0

-- what is given back, 0 and the cue's length or the refusal and 0, and the buffer afterwards: the cue's bytes at its start and the rest kept, or all as before
pub record Written (c : Cue) (house : ℕ) (buffer : List ℕ) (r : Answer) (buffer' : List ℕ) : Type 0 where
  pub answer : r ≡ record { refusal = write_refusal c house (length buffer); number = cond (writes c house (length buffer)) (length (cue_bytes c)) 0 }
  pub left : buffer' ≡ cond (writes c house (length buffer)) (cue_bytes c ++ drop (length (cue_bytes c)) buffer) buffer

-- ---- what the writer asks of laying out one field; not part of any public promise

-- a field in two pieces, its header and its body
abbrev pub field_pieces : ℕ → List ℕ → List (List ℕ)
field_pieces tag body = (tag ∷ two_bytes (length body)) ∷ body ∷ []

-- the pieces of a field with this body: none where it is left out
abbrev pub due_pieces : Due → List ℕ → List (List ℕ)
due_pieces due body = cond (is_left_out due body) [] (field_pieces (tag_of due) body)
