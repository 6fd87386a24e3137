-- Fields in the order of a list: a field by whether it stands there, the first refusal among them by its cases, their bytes in two parts (`form-append`), what is written reads back (`form-back`), how many bytes they take at most (`form-most`), and what is accepted was so written (`form-put`).
-- Each holds for any list of fields. Assumes nothing.
use mathlib.Core.Path.{◌≡◌, refl, sym, ap, ap₂, subst, ◌∙◌}
use Prim.Native.Nat.{ℕ, zero, suc, ◌+◌, ◌*◌, ◌/◌, ◌%◌, ◌≤◌, ◌<◌}
use native.Mathlib.Omega.{arith}
use mathlib.Core.Bool.{true, false, not, cond, ◌||◌, false≢true}
use mathlib.Core.List.{List, [], ◌∷◌, ◌++◌, append_assoc}
use lib.ListN.{length, get_or, take, drop, length-append, length-drop, take-append-drop}
use lib.Seq.{drop-drop, get_or-drop, take-append_seam, drop-append_seam, length-take-le}
use lib.Dec.{eqb}
use borrow.Author.Tests.{eq-eqb, ne_eqb, eqb-true, eqb-false}
use Rattle.matching.specs.Refusals.{first_met}
use Rattle.matching.proofs.CaseAnalysis.{by-test, both}
use Rattle.cue_fields.specs.declared.Due.{Due}
use Rattle.cue_fields.specs.declared.Due.TheVariants.{Phrase, Ordinal, Title, Dates, House}
use Rattle.cue_fields.specs.Field.{two_bytes, field_bytes, tag_of, allowed, number_in, value_tests, field_length, field_size, field_body, after_field, field_refusal}
use Rattle.cue_fields.specs.Form.{optional, stands, due_refusal, due_size, due_body, after_due, form_refusal, form_size, after_form, form_bodies, is_left_out, due_bytes, form_bytes, Sound, AllSound, Other, Told, Bytes, FormReadsBack, FormWasWritten}
use Rattle.cue_fields.proofs.Fields.{field-gap, Fielded, fielded, field-fine}

-- ---- a field by whether it stands there

module _ (due : Due) (rest : List ℕ) where
  pub standing : stands due rest ≡ true → (due_refusal due rest ≡ field_refusal due rest) × (due_size due rest ≡ field_size rest) × (due_body due rest ≡ field_body rest)
  unfolding due_refusal due_size due_body
  standing s = (rw s, rw s, rw s)

  pub left_out : stands due rest ≡ false → (due_refusal due rest ≡ 0) × (due_size due rest ≡ 0) × (due_body due rest ≡ [])
  unfolding due_refusal due_size due_body
  left_out s = (rw s, rw s, rw s)

  -- what is known of one that is read
  pub due-fielded : stands due rest ≡ true → due_refusal due rest ≡ 0 → Fielded due rest
  due-fielded s e = fielded due rest (sym (standing s).0 ∙ e)

  -- one from 10 on is 16
  due-gap : 10 ≤ due_refusal due rest → due_refusal due rest ≡ 16
  due-gap h =
      by-test (λ t. (stands due rest ≡ t) → due_refusal due rest ≡ 16) (stands due rest)
      (λ _ s. let e = (standing s).0 in e ∙ field-gap due rest (omega (arith, e)))
      (λ _ s. absurd (omega (arith, (left_out s).0)))
      refl

  -- it takes no more bytes than there are
  due-inside : due_refusal due rest ≡ 0 → due_size due rest ≤ length rest
  due-inside e =
      by-test (λ t. (stands due rest ≡ t) → due_size due rest ≤ length rest) (stands due rest)
      (λ _ s. omega (arith, (standing s).1, (due-fielded s e).whole))
      (λ _ s. omega (arith, (left_out s).1))
      refl

-- ---- the refusal of some fields by its cases, and what is left after them

-- no field
pub form-none : (rest : List ℕ) → (form_refusal [] rest ≡ 0) × (form_size [] rest ≡ 0) × (form_bodies [] rest ≡ [])
unfolding form_refusal form_size form_bodies
form-none rest = (refl, refl, refl)

module _ (due : Due) (dues : List Due) (rest : List ℕ) where
  -- the first is refused
  pub form-refused : {number : ℕ} → due_refusal due rest ≡ number → (number ≡ 0 → ⊥) → form_refusal (due ∷ dues) rest ≡ number
  unfolding form_refusal
  form-refused e some = rw (ne_eqb (due_refusal due rest) 0 (λ z. some (sym e ∙ z))) e

  -- it is read, or left out
  pub form-next : due_refusal due rest ≡ 0 → form_refusal (due ∷ dues) rest ≡ form_refusal dues (after_due due rest)
  unfolding form_refusal
  form-next e = rw (eq-eqb (due_refusal due rest) 0 e)

  -- none of them is refused
  pub form-fine : form_refusal (due ∷ dues) rest ≡ 0 → (due_refusal due rest ≡ 0) × (form_refusal dues (after_due due rest) ≡ 0)
  form-fine e =
      by-test (λ _. (due_refusal due rest ≡ 0) × (form_refusal dues (after_due due rest) ≡ 0)) (eqb (due_refusal due rest) 0)
      (λ t. let z = eqb-true (due_refusal due rest) 0 t in (z, sym (form-next z) ∙ e))
      (λ t. let s = eqb-false (due_refusal due rest) 0 t in absurd (s (sym (form-refused refl s) ∙ e)))

  pub after_next : after_form (due ∷ dues) rest ≡ after_form dues (after_due due rest)
  unfolding form_size
  after_next = sym (drop-drop (form_size dues (after_due due rest)) (due_size due rest) rest)

-- a refusal from 10 on is 16
pub form-gap : (dues : List Due) (rest : List ℕ) → 10 ≤ form_refusal dues rest → form_refusal dues rest ≡ 16
unfolding form_refusal
form-gap [] rest h = absurd (omega arith)
form-gap (due ∷ dues) rest h =
    by-test (λ t. let n : ℕ = cond t (form_refusal dues (after_due due rest)) (due_refusal due rest) in 10 ≤ n → n ≡ 16) (eqb (due_refusal due rest) 0)
    (λ _. form-gap dues (after_due due rest))
    (λ _. due-gap due rest)
    h

-- those that are read take no more bytes than there are
pub form-inside : (dues : List Due) (rest : List ℕ) → form_refusal dues rest ≡ 0 → form_size dues rest ≤ length rest
unfolding form_size
form-inside [] rest e = omega arith
form-inside (due ∷ dues) rest e =
    let f = form-fine due dues rest e in
    omega (arith, due-inside due rest f.0, form-inside dues (after_due due rest) f.1, length-drop (due_size due rest) rest)

-- ---- the bytes of some fields, and then of others

pub form-append : (dues more : List Due) (bodies others : List (List ℕ)) → length bodies ≡ length dues → form_bytes (dues ++ more) (bodies ++ others) ≡ form_bytes dues bodies ++ form_bytes more others
unfolding form_bytes
form-append [] more [] others e = refl
form-append [] more (body ∷ bodies) others e = absurd (omega arith)
form-append (due ∷ dues) more [] others e = absurd (omega arith)
form-append (due ∷ dues) more (body ∷ bodies) others e =
    ap (λ (l : List ℕ). due_bytes due body ++ l) (form-append dues more bodies others (omega arith)) ∙ sym (append_assoc (due_bytes due body) (form_bytes dues bodies) (form_bytes more others))

-- ---- what is written reads back

-- a number's two bytes are that number
pub two-number : (n : ℕ) (more : List ℕ) → number_in (two_bytes n ++ more) ≡ n
unfolding number_in
two-number n more = omega arith

module _ (due : Due) (body more : List ℕ) where
  abbrev bytes : List ℕ
  bytes = field_bytes (tag_of due) body ++ more

  field-length-back : field_length bytes ≡ length body
  field-length-back = two-number (length body) (body ++ more)

  field-body-back : field_body bytes ≡ body
  field-body-back = ap (λ (n : ℕ). take n (body ++ more)) field-length-back ∙ take-append_seam body more

  field-after-back : after_field bytes ≡ more
  field-after-back = sym (drop-drop (field_length bytes) 3 bytes) ∙ ap (λ (n : ℕ). drop n (body ++ more)) field-length-back ∙ drop-append_seam body more

  field_back : allowed due (length body) ≡ true → first_met (value_tests due body) ≡ 0 → Fielded due bytes
  field_back a z =
      let long : length bytes ≡ 3 + length (body ++ more) = omega arith in
      record {
        header = omega arith;
        tag = refl;
        lengths = ap (allowed due) field-length-back ∙ a;
        whole = omega (arith, field-length-back, length-append body more);
        value = ap (λ (l : List ℕ). first_met (value_tests due l)) field-body-back ∙ z;
      }

-- a field that is left out may be, and its body is empty
out-is : (due : Due) (body : List ℕ) → is_left_out due body ≡ true → (optional due ≡ true) × (body ≡ [])
out-is due body e = let b = both (optional due) (eqb (length body) 0) e in (b.0, empty body (eqb-true (length body) 0 b.1))
  where
    empty : (l : List ℕ) → length l ≡ 0 → l ≡ []
    empty [] e = refl
    empty (x ∷ l) e = absurd (omega arith)

-- one stands where its tag does, and one that may be left out only there
stands-tag : (due : Due) (rest : List ℕ) → get_or rest 0 0 ≡ tag_of due → stands due rest ≡ true
stands-tag due rest e = by-test (λ t. not t || eqb (get_or rest 0 0) (tag_of due) ≡ true) (optional due) (λ _. eq-eqb (get_or rest 0 0) (tag_of due) e) (λ _. refl)

pub stands-not : (due : Due) (rest : List ℕ) → optional due ≡ true → (get_or rest 0 0 ≡ tag_of due → ⊥) → stands due rest ≡ false
stands-not due rest o n = rw (o, ne_eqb (get_or rest 0 0) (tag_of due) n)

-- a field before anything that tells whether it was left out
record DueReadsBack (due : Due) (body more : List ℕ) : Type 0 where
  none : due_refusal due (due_bytes due body ++ more) ≡ 0
  is : due_body due (due_bytes due body ++ more) ≡ body
  after : after_due due (due_bytes due body ++ more) ≡ more

due-back : (due : Due) (body more : List ℕ) → Sound due body → (optional due ≡ true → get_or more 0 0 ≡ tag_of due → ⊥) → DueReadsBack due body more
due-back due body more s told =
    by-test (λ t. (is_left_out due body ≡ t) → DueReadsBack due body more) (is_left_out due body)
    (λ _ t.
    let o = out-is due body t in
    let shape : due_bytes due body ++ more ≡ more = rw t in
    let m = left_out due more (stands-not due more o.0 (told o.0)) in
    record { none = ap (due_refusal due) shape ∙ m.0; is = ap (due_body due) shape ∙ m.2 ∙ sym o.1; after = ap (after_due due) shape ∙ ap (λ (n : ℕ). drop n more) m.1 })
    (λ _ t.
    let rest : List ℕ = field_bytes (tag_of due) body ++ more in
    let shape : due_bytes due body ++ more ≡ rest = rw t in
    let m = standing due rest (stands-tag due rest refl) in
    record {
      none = ap (due_refusal due) shape ∙ m.0 ∙ field-fine (field_back due body more (s.lengths t) (s.value t));
      is = ap (due_body due) shape ∙ m.2 ∙ field-body-back due body more;
      after = ap (after_due due) shape ∙ ap (λ (n : ℕ). drop n rest) m.1 ∙ field-after-back due body more;
    })
    refl

-- what fields with these bodies begin with
first-other : (byte : ℕ) (dues : List Due) (bodies : List (List ℕ)) (more : List ℕ) → AllSound dues bodies → Other byte dues more → get_or (form_bytes dues bodies ++ more) 0 0 ≡ byte → ⊥
unfolding AllSound Other form_bytes
first-other byte [] bodies more s o = o
first-other byte (due ∷ dues) [] more s o = absurd s
first-other byte (due ∷ dues) (body ∷ bodies) more s o =
    by-test (λ t. get_or ((cond t [] (field_bytes (tag_of due) body) ++ form_bytes dues bodies) ++ more) 0 0 ≡ byte → ⊥) (is_left_out due body)
    (λ _. first-other byte dues bodies more s.1 o.1)
    (λ _. o.0)

pub form-back : (dues : List Due) (bodies : List (List ℕ)) → AllSound dues bodies → (more : List ℕ) → Told dues more → FormReadsBack dues bodies more
unfolding AllSound Told form_bytes form_bodies form_size form_refusal
form-back [] [] s more t = record { none = refl; are = refl; after = refl }
form-back [] (body ∷ bodies) s more t = absurd s
form-back (due ∷ dues) [] s more t = absurd s
form-back (due ∷ dues) (body ∷ bodies) s more t =
    let later : List ℕ = form_bytes dues bodies ++ more in
    let rest : List ℕ = due_bytes due body ++ later in
    let shape : (due_bytes due body ++ form_bytes dues bodies) ++ more ≡ rest = append_assoc (due_bytes due body) (form_bytes dues bodies) more in
    let d = due-back due body later s.0 (λ o. first-other (tag_of due) dues bodies more s.1 (t.0 o)) in
    let f = form-back dues bodies s.1 more t.1 in
    record {
      none = ap (form_refusal (due ∷ dues)) shape ∙ form-next due dues rest d.none ∙ ap (form_refusal dues) d.after ∙ f.none;
      are = ap (form_bodies (due ∷ dues)) shape ∙ ap₂ (λ (x : List ℕ) (l : List (List ℕ)). x ∷ l) d.is (ap (form_bodies dues) d.after ∙ f.are);
      after = ap (after_form (due ∷ dues)) shape ∙ after_next due dues rest ∙ ap (after_form dues) d.after ∙ f.after;
    }

-- ---- what is accepted was so written

pub bytes_drop : (l : List ℕ) (k : ℕ) → Bytes l → Bytes (drop k l)
bytes_drop l k b i = omega (arith, get_or-drop k l i 0, b (k + i))

bytes_take : (l : List ℕ) (k : ℕ) → Bytes l → Bytes (take k l)
bytes_take l zero b i = omega arith
bytes_take [] (suc k) b i = omega arith
bytes_take (x ∷ l) (suc k) b zero = b 0
bytes_take (x ∷ l) (suc k) b (suc i) = bytes_take l k (λ j. b (suc j)) i

-- a number in two bytes
pub number-most : (l : List ℕ) → Bytes l → number_in l ≤ 65535
unfolding number_in
number-most l b = omega (arith, b 0, b 1)

-- the body of a field in a byte string is one
pub body_bytes : (due : Due) (rest : List ℕ) → Bytes rest → Bytes (due_body due rest)
body_bytes due rest b =
    by-test (λ t. (stands due rest ≡ t) → Bytes (due_body due rest)) (stands due rest)
    (λ _ s. subst Bytes (sym (standing due rest s).2) (bytes_take (drop 3 rest) (field_length rest) (bytes_drop rest 3 b)))
    (λ _ s. subst Bytes (sym (left_out due rest s).2) (λ i. omega arith))
    refl

-- each field takes at most 65,538 bytes, three and as many as its two bytes of length tell
pub form-most : (dues : List Due) (rest : List ℕ) → Bytes rest → form_size dues rest ≤ 65538 * length dues
unfolding form_size
form-most [] rest b = omega arith
form-most (due ∷ dues) rest b = omega (arith, due-most, form-most dues (after_due due rest) (bytes_drop rest (due_size due rest) b))
  where
    told : field_size rest ≤ 65538
    told = omega (arith, number-most (drop 1 rest) (bytes_drop rest 1 b))

    due-most : due_size due rest ≤ 65538
    due-most =
        by-test (λ t. (stands due rest ≡ t) → due_size due rest ≤ 65538) (stands due rest)
        (λ _ s. omega (arith, (standing due rest s).1, told))
        (λ _ s. omega (arith, (left_out due rest s).1))
        refl

-- a field that was read, from its body
field-written : (due : Due) (rest : List ℕ) → Bytes rest → Fielded due rest → (rest ≡ field_bytes (tag_of due) (field_body rest) ++ after_field rest) × (length (field_body rest) ≡ field_length rest)
unfolding number_in
field-written due [] b f = absurd (omega (arith, f.header))
field-written due (x ∷ []) b f = absurd (omega (arith, f.header))
field-written due (x ∷ y ∷ []) b f = absurd (omega (arith, f.header))
field-written due (x ∷ y ∷ z ∷ l) b f =
    let n : ℕ = 256 * y + z in
    let low : z < 256 = b 2 in
    let long : length (take n l) ≡ n = length-take-le n l (omega (arith, f.whole)) in
    let split : l ≡ take n l ++ drop n l = sym (take-append-drop n l) in
    let after : drop n l ≡ after_field (x ∷ y ∷ z ∷ l) = drop-drop n 3 (x ∷ y ∷ z ∷ l) in
    let high : y ≡ length (take n l) / 256 = omega arith in
    let rest : z ≡ length (take n l) % 256 = omega arith in (
      ap₂ (λ (t : ℕ) (r : List ℕ). t ∷ r) f.tag
          (ap₂ (λ (h : ℕ) (r : List ℕ). h ∷ r) high (ap₂ (λ (o : ℕ) (r : List ℕ). o ∷ r) rest (split ∙ ap (λ (r : List ℕ). take n l ++ r) after))),
      long,
    )

-- a field that may be left out is never empty where it stands
never-empty : (due : Due) → optional due ≡ true → allowed due 0 ≡ true → ⊥
never-empty Phrase o a = false≢true o
never-empty Ordinal o a = false≢true o
never-empty Title o a = false≢true o
never-empty Dates o a = false≢true a
never-empty House o a = false≢true a

-- one that does not stand there may be left out
not-stands : (due : Due) (rest : List ℕ) → stands due rest ≡ false → optional due ≡ true
not-stands due rest e = by-test (λ t. not t || eqb (get_or rest 0 0) (tag_of due) ≡ false → t ≡ true) (optional due) (λ _ _. refl) (λ _ f. sym f) e

record DueWasWritten (due : Due) (rest : List ℕ) : Type 0 where
  is : rest ≡ due_bytes due (due_body due rest) ++ after_due due rest
  sound : Sound due (due_body due rest)

due-put : (due : Due) (rest : List ℕ) → Bytes rest → due_refusal due rest ≡ 0 → DueWasWritten due rest
due-put due rest b e =
    by-test (λ t. (stands due rest ≡ t) → DueWasWritten due rest) (stands due rest)
    (λ _ s.
    let m = standing due rest s in
    let f = fielded due rest (sym m.0 ∙ e) in
    let w = field-written due rest b f in
    let kept : is_left_out due (field_body rest) ≡ false =
    by-test (λ t. (is_left_out due (field_body rest) ≡ t) → t ≡ false) (is_left_out due (field_body rest))
    (λ _ t. let o = out-is due (field_body rest) t in absurd (never-empty due o.0 (ap (allowed due) (sym (ap length o.1) ∙ w.1) ∙ f.lengths)))
    (λ _ _. refl)
    refl in
    let shape : field_bytes (tag_of due) (field_body rest) ≡ due_bytes due (field_body rest) = rw kept in
    record {
      is = w.0 ∙ ap₂ (λ (x : List ℕ) (n : ℕ). x ++ drop n rest) shape (sym m.1) ∙ ap (λ (x : List ℕ). due_bytes due x ++ after_due due rest) (sym m.2);
      sound = subst (Sound due) (sym m.2) (record { lengths = λ _. ap (allowed due) w.1 ∙ f.lengths; value = λ _. f.value });
    })
    (λ _ s.
    let m = left_out due rest s in
    let out : is_left_out due [] ≡ true = rw (not-stands due rest s) in
    let shape : [] ≡ due_bytes due [] = rw out in
    record {
      is = ap (λ (n : ℕ). drop n rest) (sym m.1) ∙ ap (λ (x : List ℕ). x ++ after_due due rest) shape ∙ ap (λ (x : List ℕ). due_bytes due x ++ after_due due rest) (sym m.2);
      sound = subst (Sound due) (sym m.2) (record { lengths = λ f. absurd (false≢true (sym f ∙ out)); value = λ f. absurd (false≢true (sym f ∙ out)) });
    })
    refl

pub form-put : (dues : List Due) (rest : List ℕ) → Bytes rest → form_refusal dues rest ≡ 0 → FormWasWritten dues rest
unfolding AllSound form_bytes form_bodies form_size
form-put [] rest b e = record { is = refl; sound = tt }
form-put (due ∷ dues) rest b e =
    let f = form-fine due dues rest e in
    let d = due-put due rest b f.0 in
    let l = form-put dues (after_due due rest) (bytes_drop rest (due_size due rest) b) f.1 in
    let first : List ℕ = due_bytes due (due_body due rest) in
    let later : List ℕ = form_bytes dues (form_bodies dues (after_due due rest)) in
    record {
      is =
          d.is
          ∙ ap (λ (x : List ℕ). first ++ x) (l.is ∙ ap (λ (x : List ℕ). later ++ x) (sym (after_next due dues rest)))
          ∙ sym (append_assoc first later (after_form (due ∷ dues) rest));
      sound = (d.sound, l.sound);
    }
