-- Writing a cue: what is known where it is not refused, and that the pieces laid out are its bytes. Assumes nothing.
use mathlib.Core.Path.{◌≡◌, refl, sym, ap, ap₂, ◌∙◌}
use Prim.Native.Nat.{ℕ, ◌+◌, ◌≤◌, ◌/◌, ◌%◌}
use native.Mathlib.Omega.{arith}
use mathlib.Core.Bool.{cond}
use mathlib.Core.List.{List, [], ◌∷◌, ◌++◌, append-nil}
use lib.ListN.{length, drop, length-append}
use lib.Dec.{eqb}
use borrow.Author.Tests.{eq-eqb, ne_eqb, ltb-false, eqb-true, eqb-false, not-false}
use Rattle.std.specs.Int.{w16, to_be_bytes}
use Rattle.matching.specs.declared.refusal.Refusal.{Refusal}
use Rattle.matching.specs.Refusals.{first_met}
use Rattle.matching.specs.Results.{number_of}
use Rattle.matching.proofs.Find.{number-some}
use Rattle.matching.proofs.Refusals.{Passed, numbers_to, all-passed, gapped, met-gap}
use Rattle.calendar.specs.Calendar.{days_tests, days_refusal}
use Rattle.matching.proofs.CaseAnalysis.{by-test}
use Rattle.pieces.specs.Pieces.{joined, put_all, Laid}
use Rattle.pieces.proofs.Laid.{laid_none, laid_then, laid-front, joined-append}
use Rattle.cue_fields.specs.declared.Due.{Due}
use Rattle.cue_fields.specs.declared.Due.TheVariants.{Dates, House}
use Rattle.cue_fields.specs.Field.{tag_of, two_bytes, field_bytes}
use Rattle.cue_fields.specs.Form.{is_left_out, due_bytes, form_bytes}
use Rattle.cues.specs.declared.Days.{Days}
use Rattle.cues.specs.declared.Days.TheVariants.{Always, Within}
use Rattle.cues.specs.declared.Mark.{Mark}
use Rattle.cues.specs.declared.Mark.TheVariants.{Unmarked, Open, HouseOnly}
use Rattle.cues.specs.Cue.{Cue, cue_form, days_body, mark_body, cue_bodies, cue_bytes, dates_refusal, Valid}
use Rattle.cue_writer.specs.Writing.{write_tests, write_refusal, Written, field_pieces, due_pieces}

-- a number that fits into two bytes, as std's two bytes
pub be-two : (n : ℕ) → n ≤ 65535 → to_be_bytes w16 n ≡ two_bytes n
be-two n h = let high : n / 256 % 256 ≡ n / 256 = omega arith in ap (λ (k : ℕ). k ∷ n % 256 ∷ []) high

-- a cue's length
pub cue-length : (c : Cue) → length (cue_bytes c) ≡ 11 + length c.phrase + length c.title + length (due_bytes Dates (days_body c.days)) + length (due_bytes House (mark_body c.mark))
unfolding cue_bytes form_bytes
cue-length c =
    let dates : List ℕ = due_bytes Dates (days_body c.days) in
    let mark : List ℕ = due_bytes House (mark_body c.mark) in
    let title : List ℕ = field_bytes 3 c.title ++ (dates ++ (mark ++ [])) in
    omega (
      arith,
      length-append (field_bytes 1 c.phrase) (field_bytes 2 (two_bytes c.ordinal) ++ title),
      length-append (field_bytes 3 c.title) (dates ++ (mark ++ [])),
      length-append dates (mark ++ []),
      length-append mark [],
    )

-- its dates take at most 7 bytes
pub dates-most : (d : Days) → length (due_bytes Dates (days_body d)) ≤ 7
dates-most Always = omega arith
dates-most (Within first last) = omega arith

-- and its mark at most 4
pub mark-most : (k : Mark) → length (due_bytes House (mark_body k)) ≤ 4
mark-most Unmarked = omega arith
mark-most Open = omega arith
mark-most HouseOnly = omega arith

-- ---- the refusals

-- a cue whose days are refused is refused with 16, whatever else is wrong with it
pub days-first : (c : Cue) (house capacity : ℕ) → (dates_refusal c.days ≡ 0 → ⊥) → write_refusal c house capacity ≡ 16
unfolding write_refusal first_met
days-first c house capacity some = rw (ne_eqb (dates_refusal c.days) 0 some) refl

-- days are refused with 16 alone
dates-only : (d : Days) → 1 ≤ dates_refusal d → dates_refusal d ≡ 16
unfolding days_refusal gapped
dates-only Always some = absurd (omega arith)
dates-only (Within first last) some = met-gap 1 16 (days_tests first last) refl (omega arith) some

-- so a refusal of the days is the cue's
pub days-refused : (c : Cue) (house capacity : ℕ) (r : Refusal) → number_of r ≡ dates_refusal c.days → number_of r ≡ write_refusal c house capacity
days-refused c house capacity r e =
    e ∙ dates-only c.days (omega (arith, e, number-some r)) ∙ sym (days-first c house capacity (λ z. omega (arith, e, z, number-some r)))

-- ---- a cue that is written is valid, and fits

pub record Fitting (c : Cue) (capacity : ℕ) : Type 0 where
  pub valid : Valid c
  pub fits : length (cue_bytes c) ≤ capacity

pub fitting : (c : Cue) (house capacity : ℕ) → write_refusal c house capacity ≡ 0 → Fitting c capacity
unfolding write_refusal Passed numbers_to
fitting c house capacity e =
    let dated = all-passed 16 (write_tests c house capacity) refl e in
    let p = dated.1 in
    let named = p.1.1 in
    let shown = named.1.1 in
    record {
      valid =
          record {
            some = omega (arith, eqb-false (length c.phrase) 0 p.0);
            short = ltb-false 1024 (length c.phrase) p.1.0;
            named = omega (arith, eqb-false c.ordinal 0 named.0);
            small = ltb-false 65535 c.ordinal named.1.0;
            shown = ltb-false 200 (length c.title) shown.0;
            dated = eqb-true (dates_refusal c.days) 0 (not-false (eqb (dates_refusal c.days) 0) dated.0);
          };
      fits = ltb-false capacity (length (cue_bytes c)) shown.1.1.0;
    }

-- so its length is small
pub fitting-length : {c : Cue} {capacity : ℕ} → Fitting c capacity → length (cue_bytes c) ≤ 1246
fitting-length {c} f = omega (arith, cue-length c, f.valid.short, f.valid.shown, dates-most c.days, mark-most c.mark)

-- ---- the pieces of fields in the order of a list, and of a cue

unfoldable pub form_pieces : List Due → List (List ℕ) → List (List ℕ)
form_pieces [] bodies = []
form_pieces (due ∷ dues) [] = []
form_pieces (due ∷ dues) (body ∷ bodies) = due_pieces due body ++ form_pieces dues bodies

-- the pieces of one field are its bytes
joined-due : (due : Due) (body : List ℕ) → joined (due_pieces due body) ≡ due_bytes due body
unfolding joined
joined-due due body =
    by-test (λ t. joined (cond t [] (field_pieces (tag_of due) body)) ≡ cond t [] (field_bytes (tag_of due) body)) (is_left_out due body)
    (λ _. refl)
    (λ _. ap (λ (l : List ℕ). tag_of due ∷ (two_bytes (length body) ++ l)) (append-nil body))

joined-form : (dues : List Due) (bodies : List (List ℕ)) → joined (form_pieces dues bodies) ≡ form_bytes dues bodies
unfolding joined form_pieces form_bytes
joined-form [] bodies = refl
joined-form (due ∷ dues) [] = refl
joined-form (due ∷ dues) (body ∷ bodies) =
    joined-append (due_pieces due body) (form_pieces dues bodies) ∙ ap₂ (λ (x l : List ℕ). x ++ l) (joined-due due body) (joined-form dues bodies)

abbrev pub cue_pieces : Cue → List (List ℕ)
cue_pieces c = form_pieces cue_form (cue_bodies c)

joined-cue : (c : Cue) → joined (cue_pieces c) ≡ cue_bytes c
unfolding cue_bytes
joined-cue c = joined-form cue_form (cue_bodies c)

-- its fields laid out one after another
pub laid-fields : (c : Cue) (buffer : List ℕ) {number b₁ b₂ b₃ b₄ b₅ : List ℕ} {a₁ a₂ a₃ a₄ a₅ : ℕ} → c.ordinal ≤ 65535 → number ≡ to_be_bytes w16 c.ordinal
    → Laid b₁ a₁ (put_all buffer 0 (field_pieces 1 c.phrase)) → Laid b₂ a₂ (put_all b₁ a₁ (field_pieces 2 number)) → Laid b₃ a₃ (put_all b₂ a₂ (field_pieces 3 c.title))
    → Laid b₄ a₄ (put_all b₃ a₃ (due_pieces Dates (days_body c.days))) → Laid b₅ a₅ (put_all b₄ a₄ (due_pieces House (mark_body c.mark)))
    → Laid b₅ a₅ (put_all buffer 0 (cue_pieces c))
unfolding form_pieces
laid-fields c buffer small number p o t d m =
    let two = number ∙ be-two c.ordinal small in
    laid_then _ _ _ _ p (laid_then _ _ _ _ (rw two at o) (laid_then _ _ _ _ t (laid_then _ _ _ _ d (laid_then _ _ _ _ m (laid_none _ _)))))

-- ---- what is given back and left

-- the pieces laid out in a buffer that is long enough
pub laid-cue : (c : Cue) (buffer : List ℕ) {at : ℕ} {buffer' : List ℕ} → length (cue_bytes c) ≤ length buffer → Laid buffer' at (put_all buffer 0 (cue_pieces c))
    → (at ≡ length (cue_bytes c)) × (buffer' ≡ cue_bytes c ++ drop (length (cue_bytes c)) buffer)
laid-cue c buffer long l =
    let whole = laid-front (cue_pieces c) buffer (omega (arith, ap length (joined-cue c))) l in
    (whole.0 ∙ ap length (joined-cue c), whole.1 ∙ ap (λ (x : List ℕ). x ++ drop (length x) buffer) (joined-cue c))

module _ {c : Cue} {house : ℕ} {buffer : List ℕ} where
  pub written-whole : {at : ℕ} {buffer' : List ℕ} → write_refusal c house (length buffer) ≡ 0 → Laid buffer' at (put_all buffer 0 (cue_pieces c)) → Written c house buffer (record { refusal = 0; number = at }) buffer'
  written-whole e l =
      let on = eq-eqb (write_refusal c house (length buffer)) 0 e in
      let w = laid-cue c buffer (fitting c house (length buffer) e).fits l in
      record { answer = rw (on, e) (ap (λ (n : ℕ). record { refusal = 0; number = n }) w.0); left = rw on w.1 }
