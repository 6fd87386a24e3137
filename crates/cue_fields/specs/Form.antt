-- Fields in the order of a list, as a cue has them: what reading them one after another gives on every byte string, and their bytes. A field that may be left out is one of the list all the same: where it
-- is left out its body is the empty one, which it never has where it stands. `rest` is what is left of the book at the first.
use Rattle.std.specs.Prelude.{◌≡◌, ℕ, ◌+◌, ◌<◌, Bool, true, false, cond, not, ◌&&◌, ◌||◌, List, [], ◌∷◌, ◌++◌, length, get_or, drop, eqb, Result, Ok}
use Rattle.matching.specs.declared.refusal.Refusal.{Refusal}
use Rattle.matching.specs.Refusals.{first_met}
use Rattle.matching.specs.Results.{refused_by}
use Rattle.cue_fields.specs.declared.Due.{Due}
use Rattle.cue_fields.specs.declared.Due.TheVariants.{Phrase, Ordinal, Title, Dates, House}
use Rattle.cue_fields.specs.declared.Span.{Span}
use Rattle.cue_fields.specs.Field.{tag_of, allowed, number_in, value_tests, field_bytes, field_body, field_size, field_refusal, span, bodies_meant, field_at}

-- ---- a field that is due

-- whether it may be left out (document 02, (viii) and (xiv)): dates and the house mark may
abbrev pub optional : Due → Bool
optional Phrase = false
optional Ordinal = false
optional Title = false
optional Dates = true
optional House = true

-- whether it stands there: one that may be left out does where the next byte is its tag; where no byte is left, that is 0 here, which is no tag
abbrev pub stands : Due → List ℕ → Bool
stands due rest = not (optional due) || eqb (get_or rest 0 0) (tag_of due)

-- its refusal, the bytes that it takes, and its body: one left out is not refused, takes none, and has the empty body
unfoldable pub due_refusal : Due → List ℕ → ℕ
unfolding field_refusal
due_refusal due rest = cond (stands due rest) (field_refusal due rest) 0

unfoldable pub due_size : Due → List ℕ → ℕ
unfolding number_in
due_size due rest = cond (stands due rest) (field_size rest) 0

unfoldable pub due_body : Due → List ℕ → List ℕ
unfolding number_in
due_body due rest = cond (stands due rest) (field_body rest) []

-- what is left after it
abbrev pub after_due : Due → List ℕ → List ℕ
after_due due rest = drop (due_size due rest) rest

-- the answer at a place: one left out has the empty body there
unfoldable pub due_at : List ℕ → ℕ → Due → Result Span Refusal
unfolding field_at
due_at book place due = cond (stands due (drop place book)) (field_at book place due) (Ok (span place place))

-- what is read there, its number in document 01, and the body that it means
pub record DueRead (book : List ℕ) (place : ℕ) (due : Due) (r : Result Span Refusal) : Type 0 where
  pub answer : r ≡ due_at book place due
  pub number : refused_by r ≡ due_refusal due (drop place book)
  pub meant : bodies_meant book r ≡ cond (eqb (due_refusal due (drop place book)) 0) (due_body due (drop place book) ∷ []) []

-- ---- reading them

-- the first refusal among them, 0 for none
unfoldable pub form_refusal : List Due → List ℕ → ℕ
unfolding due_refusal due_size
form_refusal [] rest = 0
form_refusal (due ∷ dues) rest =
    let later = form_refusal dues (after_due due rest) in
    cond (eqb (due_refusal due rest) 0) later (due_refusal due rest)

-- the bytes that they take, and what is left after them
unfoldable pub form_size : List Due → List ℕ → ℕ
unfolding due_size
form_size [] rest = 0
form_size (due ∷ dues) rest = due_size due rest + form_size dues (after_due due rest)

abbrev pub after_form : List Due → List ℕ → List ℕ
after_form dues rest = drop (form_size dues rest) rest

-- their bodies
unfoldable pub form_bodies : List Due → List ℕ → List (List ℕ)
unfolding due_size due_body
form_bodies [] rest = []
form_bodies (due ∷ dues) rest = due_body due rest ∷ form_bodies dues (after_due due rest)

-- ---- writing them

-- whether a field with this body is left out
abbrev pub is_left_out : Due → List ℕ → Bool
is_left_out due body = optional due && eqb (length body) 0

-- its bytes
abbrev pub due_bytes : Due → List ℕ → List ℕ
due_bytes due body = cond (is_left_out due body) [] (field_bytes (tag_of due) body)

-- the bytes of fields with these bodies
unfoldable pub form_bytes : List Due → List (List ℕ) → List ℕ
form_bytes [] bodies = []
form_bytes (due ∷ dues) [] = []
form_bytes (due ∷ dues) (body ∷ bodies) = due_bytes due body ++ form_bytes dues bodies

-- what a field's body may be, unless the field is left out: of an allowed length, and of a value that is not refused
pub record Sound (due : Due) (body : List ℕ) : Type 0 where
  pub lengths : is_left_out due body ≡ false → allowed due (length body) ≡ true
  pub value : is_left_out due body ≡ false → first_met (value_tests due body) ≡ 0

-- as many bodies as fields, each of them sound
unfoldable pub AllSound : List Due → List (List ℕ) → Type 0
AllSound [] [] = Unit {0}
AllSound [] (body ∷ bodies) = ⊥
AllSound (due ∷ dues) [] = ⊥
AllSound (due ∷ dues) (body ∷ bodies) = Sound due body × AllSound dues bodies

-- ---- what follows a field that may be left out

-- a byte that none of these fields has as its tag, and that does not come after them
unfoldable pub Other : ℕ → List Due → List ℕ → Type 0
Other byte [] more = get_or more 0 0 ≡ byte → ⊥
Other byte (due ∷ dues) more = (tag_of due ≡ byte → ⊥) × Other byte dues more

-- what follows tells that a field was left out: it does not begin with that field's tag
unfoldable pub Told : List Due → List ℕ → Type 0
unfolding Other
Told [] more = Unit {0}
Told (due ∷ dues) more = (optional due ≡ true → Other (tag_of due) dues more) × Told dues more

-- ---- the two are inverse

-- what is written reads back: fields with these bodies, before anything that tells what was left out, are not refused, these are their bodies, and the rest is what is left
pub record FormReadsBack (dues : List Due) (bodies : List (List ℕ)) (more : List ℕ) : Type 0 where
  pub none : form_refusal dues (form_bytes dues bodies ++ more) ≡ 0
  pub are : form_bodies dues (form_bytes dues bodies ++ more) ≡ bodies
  pub after : after_form dues (form_bytes dues bodies ++ more) ≡ more

-- every letter is a byte
abbrev pub Bytes : List ℕ → Type 0
Bytes l = (i : ℕ) → get_or l i 0 < 256

-- what is accepted was so written: it is the bytes of its bodies, which are sound, and what is left
pub record FormWasWritten (dues : List Due) (rest : List ℕ) : Type 0 where
  pub is : rest ≡ form_bytes dues (form_bodies dues rest) ++ after_form dues rest
  pub sound : AllSound dues (form_bodies dues rest)
