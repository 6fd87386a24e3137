-- A cue's value and the bodies of its fields give back each other; so a cue that is written reads back (`cue-back`), and one that is accepted was so written (`cue-put`). Assumes
-- nothing.
use mathlib.Core.Path.{◌≡◌, refl, sym, ap, ap₂, ◌∙◌}
use Prim.Native.Nat.{ℕ, ◌+◌, ◌*◌, ◌/◌, ◌%◌, ◌<◌}
use native.Mathlib.Omega.{arith}
use mathlib.Core.Bool.{false, cond, false≢true}
use mathlib.Core.List.{List, [], ◌∷◌, ◌++◌}
use lib.ListN.{length, get_or}
use lib.Dec.{eqb, leb}
use borrow.Author.Tests.{ne_eqb, eqb-true, eqb-false, ltb-false, le-leb, leb-true}
use Rattle.matching.specs.Refusals.{first_met}
use Rattle.matching.proofs.Refusals.{Passed, numbers_to, all-passed}
use Rattle.matching.proofs.CaseAnalysis.{by-test, both}
use Rattle.calendar.specs.Calendar.{days_refusal}
use Rattle.cue_fields.specs.declared.Due.TheVariants.{Phrase, Ordinal, Title, Dates, House}
use Rattle.cue_fields.specs.Field.{two_bytes, number_in, first_in, last_in, value_tests}
use Rattle.cue_fields.specs.Form.{due_size, due_body, after_due, form_bodies, form_bytes, Sound, AllSound, Other, Told, Bytes}
use Rattle.cue_fields.proofs.Form.{two-number, form-back, form-put, bytes_drop, number-most, body_bytes}
use Rattle.cues.specs.declared.Days.{Days}
use Rattle.cues.specs.declared.Days.TheVariants.{Always, Within}
use Rattle.cues.specs.declared.Mark.{Mark}
use Rattle.cues.specs.declared.Mark.TheVariants.{Unmarked, Open, HouseOnly}
use Rattle.cues.specs.Cue.{Cue, cue_with, cue_form, days_body, days_from, mark_body, mark_from, cue_bodies, cue_from, cue_bytes, dates_refusal, Valid}
use Rattle.cues.specs.Reading.{cue_refusal, cue_of, after_cue, Apart, CueReadsBack, CueWasWritten}

-- ---- a valid cue, by its bodies

-- two days, from their bytes
days-numbers : (first last : ℕ) → (first_in (two_bytes first ++ two_bytes last) ≡ first) × (last_in (two_bytes first ++ two_bytes last) ≡ last)
days-numbers first last = (two-number first (two_bytes last), two-number last [])

days-back : (d : Days) → days_from (days_body d) ≡ d
unfolding days_from
days-back Always = refl
days-back (Within first last) = let n = days-numbers first last in ap₂ Within n.0 n.1

-- a mark, from its byte
mark-back : (k : Mark) → mark_from (mark_body k) ≡ k
unfolding mark_from
mark-back Unmarked = refl
mark-back Open = refl
mark-back HouseOnly = refl

bodies-back : (c : Cue) → cue_from (cue_bodies c) ≡ c
bodies-back c =
    ap₂ (λ (n : ℕ) (d : Days). cue_with c.phrase n c.title d (mark_from (mark_body c.mark))) (two-number c.ordinal []) (days-back c.days)
    ∙ ap (cue_with c.phrase c.ordinal c.title c.days) (mark-back c.mark)

days-sound : (d : Days) → dates_refusal d ≡ 0 → Sound Dates (days_body d)
unfolding days_refusal
days-sound Always e = record { lengths = λ f. absurd (false≢true (sym f)); value = λ f. absurd (false≢true (sym f)) }
days-sound (Within first last) e = let n = days-numbers first last in record { lengths = λ _. refl; value = λ _. ap₂ days_refusal n.0 n.1 ∙ e }

mark-sound : (k : Mark) → Sound House (mark_body k)
unfolding first_met
mark-sound Unmarked = record { lengths = λ f. absurd (false≢true (sym f)); value = λ f. absurd (false≢true (sym f)) }
mark-sound Open = record { lengths = λ _. refl; value = λ _. refl }
mark-sound HouseOnly = record { lengths = λ _. refl; value = λ _. refl }

pub valid-sound : (c : Cue) → Valid c → AllSound cue_form (cue_bodies c)
unfolding AllSound first_met
valid-sound c v =
    let phrase : Sound Phrase c.phrase = record { lengths = λ _. rw (le-leb 1 (length c.phrase) v.some, le-leb (length c.phrase) 1024 v.short); value = λ _. refl } in
    let named : eqb (number_in (two_bytes c.ordinal)) 0 ≡ false = ne_eqb (number_in (two_bytes c.ordinal)) 0 (λ z. omega (arith, two-number c.ordinal [], v.named)) in
    let ordinal : Sound Ordinal (two_bytes c.ordinal) = record { lengths = λ _. refl; value = λ _. rw named } in
    let title : Sound Title c.title = record { lengths = λ _. le-leb (length c.title) 200 v.shown; value = λ _. refl } in
    (phrase, (ordinal, (title, (days-sound c.days v.dated, (mark-sound c.mark, tt)))))

-- what stands apart tells whether dates and the mark were left out, and no other field may be
told : (more : List ℕ) → Apart more → Told cue_form more
unfolding Told Other
told more apart = (λ o. absurd (false≢true o), (λ o. absurd (false≢true o), (λ o. absurd (false≢true o), (λ _. (λ e. omega (arith, e), apart.0), (λ _. apart.1, tt)))))

-- its bytes, before anything that stands apart, read back as that cue
pub cue-back : (c : Cue) → Valid c → (more : List ℕ) → Apart more → CueReadsBack c more
unfolding cue_bytes cue_of cue_refusal
cue-back c v more apart =
    let f = form-back cue_form (cue_bodies c) (valid-sound c v) more (told more apart) in
    record { none = f.none; value = ap cue_from f.are ∙ bodies-back c; after = f.after }

-- a cue begins with the tag of its phrase, so its bytes stand apart
pub cue-apart : (c : Cue) (more : List ℕ) → Apart (cue_bytes c ++ more)
unfolding cue_bytes form_bytes
cue-apart c more = (λ z. omega (arith, z), λ z. omega (arith, z))

-- ---- sound bodies, by the cue that they are

-- two bytes are those of their number
two_back : (l : List ℕ) → length l ≡ 2 → get_or l 1 0 < 256 → two_bytes (number_in l) ≡ l
unfolding number_in
two_back [] e b = absurd (omega arith)
two_back (x ∷ []) e b = absurd (omega arith)
two_back (x ∷ y ∷ []) e b =
    let h : (256 * x + y) / 256 ≡ x = omega arith in
    let o : (256 * x + y) % 256 ≡ y = omega arith in
    ap₂ (λ (s t : ℕ). s ∷ t ∷ []) h o
two_back (x ∷ y ∷ z ∷ l) e b = absurd (omega arith)

-- and four those of their two numbers
four-back : (l : List ℕ) → length l ≡ 4 → Bytes l → two_bytes (first_in l) ++ two_bytes (last_in l) ≡ l
unfolding number_in
four-back [] e b = absurd (omega arith)
four-back (x ∷ []) e b = absurd (omega arith)
four-back (x ∷ y ∷ l) e b = ap₂ (λ (s t : List ℕ). s ++ t) (two_back (x ∷ y ∷ []) refl (b 1)) (two_back l (omega arith) (b 3))

-- an ordinal's number is not 0
ordinal-named : (body : List ℕ) → Sound Ordinal body → eqb (number_in body) 0 ≡ false
unfolding Passed numbers_to
ordinal-named body s = (all-passed 9 (value_tests Ordinal body) refl (s.value refl)).0

-- dates are those of their days, which are not refused
dates-meant : (body : List ℕ) → Bytes body → Sound Dates body → (days_body (days_from body) ≡ body) × (dates_refusal (days_from body) ≡ 0)
unfolding days_from days_refusal
dates-meant [] b s = (refl, refl)
dates-meant (x ∷ l) b s =
    let here : eqb (length (x ∷ l)) 0 ≡ false = ne_eqb (length (x ∷ l)) 0 (λ z. omega arith) in
    (four-back (x ∷ l) (eqb-true (length (x ∷ l)) 4 (s.lengths here)) b, s.value here)

-- the byte of a sound mark is 0 or 1, so it is that of its mark
mark-meant : (body : List ℕ) → Sound House body → mark_body (mark_from body) ≡ body
unfolding mark_from Passed numbers_to
mark-meant [] s = refl
mark-meant (x ∷ []) s =
    let small = ltb-false 1 x (all-passed 9 (value_tests House (x ∷ [])) refl (s.value refl)).0 in
    by-test (λ t. (eqb x 0 ≡ t) → mark_body (cond t Open HouseOnly) ≡ x ∷ []) (eqb x 0)
    (λ _ t. ap (λ (n : ℕ). n ∷ []) (sym (eqb-true x 0 t)))
    (λ _ t. let one : 1 ≡ x = omega (arith, small, eqb-false x 0 t) in ap (λ (n : ℕ). n ∷ []) one)
    refl
mark-meant (x ∷ y ∷ l) s =
    let here : eqb (length (x ∷ y ∷ l)) 0 ≡ false = ne_eqb (length (x ∷ y ∷ l)) 0 (λ z. omega arith) in
    absurd (omega (arith, eqb-true (length (x ∷ y ∷ l)) 1 (s.lengths here)))

-- bodies that are sound are those of a valid cue
record Meant (bodies : List (List ℕ)) : Type 0 where
  back : cue_bodies (cue_from bodies) ≡ bodies
  valid : Valid (cue_from bodies)

sound-valid : (phrase ordinal title dates house : List ℕ) → Bytes ordinal → Bytes dates → AllSound cue_form (phrase ∷ ordinal ∷ title ∷ dates ∷ house ∷ []) → Meant (phrase ∷ ordinal ∷ title ∷ dates ∷ house ∷ [])
unfolding AllSound
sound-valid phrase ordinal title dates house b d s =
    let lengths = both (leb 1 (length phrase)) (leb (length phrase) 1024) (s.0.lengths refl) in
    let o = s.1.0 in
    let days = dates-meant dates d s.1.1.1.0 in
    record {
      back =
          ap₂ (λ (l m : List ℕ). phrase ∷ l ∷ title ∷ m ∷ mark_body (mark_from house) ∷ []) (two_back ordinal (eqb-true (length ordinal) 2 (o.lengths refl)) (b 1)) days.0
          ∙ ap (λ (l : List ℕ). phrase ∷ ordinal ∷ title ∷ dates ∷ l ∷ []) (mark-meant house s.1.1.1.1.0);
      valid =
          record {
            some = leb-true 1 (length phrase) lengths.0;
            short = leb-true (length phrase) 1024 lengths.1;
            named = omega (arith, eqb-false (number_in ordinal) 0 (ordinal-named ordinal o));
            small = number-most ordinal b;
            shown = leb-true (length title) 200 (s.1.1.0.lengths refl);
            dated = days.1;
          };
    }

-- a byte string that a cue is read from is the bytes of that cue, and what is left
pub cue-put : (rest : List ℕ) → Bytes rest → cue_refusal rest ≡ 0 → CueWasWritten rest
unfolding cue_bytes cue_of cue_refusal form_bodies
cue-put rest b e =
    let f = form-put cue_form rest b e in
    let second : List ℕ = after_due Phrase rest in
    let third : List ℕ = after_due Ordinal second in
    let fourth : List ℕ = after_due Title third in
    let b₂ : Bytes second = bytes_drop rest (due_size Phrase rest) b in
    let b₄ : Bytes fourth = bytes_drop third (due_size Title third) (bytes_drop second (due_size Ordinal second) b₂) in
    let m = sound-valid (due_body Phrase rest) (due_body Ordinal second) (due_body Title third) (due_body Dates fourth) (due_body House (after_due Dates fourth)) (body_bytes Ordinal second b₂) (body_bytes Dates fourth b₄) f.sound in
    record { is = f.is ∙ ap (λ (l : List (List ℕ)). form_bytes cue_form l ++ after_cue rest) (sym m.back); valid = m.valid }
