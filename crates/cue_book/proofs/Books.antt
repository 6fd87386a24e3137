-- A book read cue by cue: the cases of `read_up_to`, what an accepted book's first cue is, how long it is at most, where its titles stand, and what is known at each cue of a walk over it. Assumes nothing.
use mathlib.Core.Path.{◌≡◌, refl, sym, ap, ap₂, subst, ◌∙◌}
use Prim.Native.Nat.{ℕ, zero, suc, ◌+◌, ◌-◌, ◌*◌, ◌≤◌, ◌<◌}
use native.Mathlib.Omega.{arith}
use native.Mathlib.Numerals.{add-one}
use mathlib.Core.Bool.{true, false, cond, ◌&&◌}
use mathlib.Core.List.{List, [], ◌∷◌, ◌++◌, append-nil}
use lib.ListN.{length, get_or, take, drop, length-drop, length-append}
use lib.Seq.{get_or-append_seam}
use lib.Dec.{eqb, ltb}
use borrow.Author.Tests.{eq-eqb, ne_eqb, eqb-true, eqb-false, lt-ltb, le-ltb, ltb-true, ltb-false}
use Rattle.std.specs.Prelude.{Result}
use Rattle.matching.specs.declared.refusal.Refusal.{Refusal}
use Rattle.matching.specs.Joined.{those}
use Rattle.matching.proofs.CaseAnalysis.{by-test}
use Rattle.matching.proofs.Those.{those-nothing, those-append, those-few}
use Rattle.cue_fields.specs.Field.{field_body}
use Rattle.cue_fields.specs.Form.{form_size, after_form, Bytes}
use Rattle.cue_fields.proofs.Fields.{after-field}
use Rattle.cue_fields.proofs.Form.{bytes_drop, form-most}
use Rattle.cues.specs.declared.Cue as found
use Rattle.cues.specs.declared.Choice.{Choice}
use Rattle.cues.specs.Cue.{Cue, cue_form, head_form, plays_on, seen_by, is_chosen}
use Rattle.cues.specs.Reading.{cue_refusal, cue_size, after_cue, cue_of}
use Rattle.cues.specs.Places.{cue_end, start_of_title, title_length, cue_at, CueRead}
use Rattle.cues.proofs.Cues.{cue-gap, cue-phrase, cue-some, cue-inside, title-body, title-last, CueAt, title-ends}
use Rattle.cue_book.specs.declared.Part.{Part}
use Rattle.cue_book.specs.Reading.{Reading, refused, cues, followed, read_up_to, read_book, refusal_of, number_of, playing, seen, playing_for, chosen_of, cues_in, title_at}
use Rattle.cue_book.specs.Places.{chosen_answer, cue_place, CueBack, title_in, front, title_part, Shows, TitlePlaced}

-- ---- reading on from here, by its cases

pub read-end : (more index : ℕ) (rest : List ℕ) → length rest ≡ 0 → read_up_to more index rest ≡ cues []
unfolding read_up_to
read-end zero index rest h = rw (eq-eqb (length rest) 0 h)
read-end (suc more) index rest h = rw (eq-eqb (length rest) 0 h)

pub read-over : (index : ℕ) (rest : List ℕ) → (length rest ≡ 0 → ⊥) → read_up_to 0 index rest ≡ refused 10 index
unfolding read_up_to
read-over index rest h = rw (ne_eqb (length rest) 0 h)

pub read-refused : (more index : ℕ) (rest : List ℕ) {number : ℕ} → (length rest ≡ 0 → ⊥) → cue_refusal rest ≡ number → (number ≡ 0 → ⊥) → read_up_to (suc more) index rest ≡ refused number index
unfolding read_up_to
read-refused more index rest h e some = rw (ne_eqb (length rest) 0 h, ne_eqb (cue_refusal rest) 0 (λ z. some (sym e ∙ z))) (ap (λ (n : ℕ). refused n index) e)

pub read_next : (more index : ℕ) (rest : List ℕ) → (length rest ≡ 0 → ⊥) → cue_refusal rest ≡ 0 → read_up_to (suc more) index rest ≡ followed (cue_of rest) (read_up_to more (suc index) (after_cue rest))
unfolding read_up_to
read_next more index rest h e = rw (ne_eqb (length rest) 0 h, eq-eqb (cue_refusal rest) 0 e)

-- ---- a reading that begins with a cue

-- which of the two a reading is
kind : Reading → ℕ
kind (refused number index) = 1
kind (cues cs) = 0

pub not-both : {A : Type 0} {number index : ℕ} {cs : List Cue} → refused number index ≡ cues cs → A
unfolding kind
not-both e = let k : ◌≡◌ {A = ℕ} 1 0 = ap kind e in absurd (omega arith)

not-empty : {A : Type 0} {c : Cue} {cs : List Cue} → cues [] ≡ cues (c ∷ cs) → A
not-empty {A} {c} {cs} e = let k : 0 ≡ suc (length cs) = ap (λ (r : Reading). length (cues_in r)) e in absurd (omega arith)

-- its first cue, or else that one, and the cues after it
first_or : Cue → Reading → Cue
first_or d (refused number index) = d
first_or d (cues []) = d
first_or d (cues (c ∷ cs)) = c

later : Reading → List Cue
later (refused number index) = []
later (cues []) = []
later (cues (c ∷ cs)) = cs

followed-is : (c d : Cue) (cs : List Cue) (r : Reading) → followed c r ≡ cues (d ∷ cs) → (c ≡ d) × (r ≡ cues cs)
unfolding first_or later
followed-is c d cs (refused number index) e = not-both e
followed-is c d cs (cues ds) e = (ap (first_or c) e, ap (λ (r : Reading). cues (later r)) e)

pub record Begins (more index : ℕ) (rest : List ℕ) (c : Cue) (cs : List Cue) : Type 0 where
  pub fewer : ℕ
  pub fewer-is : more ≡ suc fewer
  pub none : cue_refusal rest ≡ 0
  pub cue : cue_of rest ≡ c
  pub then : read_up_to fewer (suc index) (after_cue rest) ≡ cues cs

pub begins : (more index : ℕ) (rest : List ℕ) (c : Cue) (cs : List Cue) → read_up_to more index rest ≡ cues (c ∷ cs) → Begins more index rest c cs
begins zero index rest c cs e =
    by-test (λ _. Begins zero index rest c cs) (eqb (length rest) 0)
    (λ t. not-empty (sym (read-end zero index rest (eqb-true (length rest) 0 t)) ∙ e))
    (λ t. not-both (sym (read-over index rest (eqb-false (length rest) 0 t)) ∙ e))
begins (suc more) index rest c cs e =
    by-test (λ _. Begins (suc more) index rest c cs) (eqb (length rest) 0)
    (λ t. not-empty (sym (read-end (suc more) index rest (eqb-true (length rest) 0 t)) ∙ e))
    (λ t.
    let some = eqb-false (length rest) 0 t in
    by-test (λ _. Begins (suc more) index rest c cs) (eqb (cue_refusal rest) 0)
    (λ u.
    let none = eqb-true (cue_refusal rest) 0 u in
    let f = followed-is (cue_of rest) c cs (read_up_to more (suc index) (after_cue rest)) (sym (read_next more index rest some none) ∙ e) in
    record { fewer = more; fewer-is = refl; none = none; cue = f.0; then = f.1 })
    (λ u. not-both (sym (read-refused more index rest some refl (eqb-false (cue_refusal rest) 0 u)) ∙ e)))

-- a reading with no cue is of no bytes
pub ends : (more index : ℕ) (rest : List ℕ) → read_up_to more index rest ≡ cues [] → length rest ≡ 0
ends zero index rest e =
    by-test (λ _. length rest ≡ 0) (eqb (length rest) 0) (λ t. eqb-true (length rest) 0 t) (λ t. not-both (sym (read-over index rest (eqb-false (length rest) 0 t)) ∙ e))
ends (suc more) index rest e =
    by-test (λ _. length rest ≡ 0) (eqb (length rest) 0)
    (λ t. eqb-true (length rest) 0 t)
    (λ t.
    let some = eqb-false (length rest) 0 t in
    by-test (λ _. length rest ≡ 0) (eqb (cue_refusal rest) 0)
    (λ u. not-followed (read_up_to more (suc index) (after_cue rest)) (sym (read_next more index rest some (eqb-true (cue_refusal rest) 0 u)) ∙ e))
    (λ u. not-both (sym (read-refused more index rest some refl (eqb-false (cue_refusal rest) 0 u)) ∙ e)))
  where
    not-followed : {A : Type 0} (r : Reading) → followed (cue_of rest) r ≡ cues [] → A
    not-followed (refused number index) e = not-both e
    not-followed (cues cs) e = not-empty (sym e)

-- where one cue more might be read, the same cues are read, by whatever index
pub read-slack : (cs : List Cue) (more index index' : ℕ) (rest : List ℕ) → read_up_to more index rest ≡ cues cs → read_up_to (suc more) index' rest ≡ cues cs
read-slack [] more index index' rest e = read-end (suc more) index' rest (ends more index rest e)
read-slack (c ∷ cs) more index index' rest e =
    let b = begins more index rest c cs e in
    let on = read-slack cs b.fewer (suc index) (suc index') (after_cue rest) b.then in
    read_next more index' rest (cue-some rest b.none) b.none
    ∙ ap₂ (λ (d : Cue) (m : ℕ). followed d (read_up_to m (suc index') (after_cue rest))) b.cue b.fewer-is
    ∙ ap (followed c) on

-- a refused book's number is not 0, and one from 11 on is 16
pub refused-number : (more index : ℕ) (rest : List ℕ) {number at : ℕ} → read_up_to more index rest ≡ refused number at → (1 ≤ number) × (11 ≤ number → number ≡ 16)
refused-number zero index rest {number} e =
    by-test (λ _. (1 ≤ number) × (11 ≤ number → number ≡ 16)) (eqb (length rest) 0)
    (λ t. not-both (sym e ∙ read-end zero index rest (eqb-true (length rest) 0 t)))
    (λ t. let is = ap refusal_of (sym (read-over index rest (eqb-false (length rest) 0 t)) ∙ e) in (omega (arith, is), λ h. absurd (omega (arith, is))))
refused-number (suc more) index rest {number} {at} e =
    by-test (λ _. (1 ≤ number) × (11 ≤ number → number ≡ 16)) (eqb (length rest) 0)
    (λ t. not-both (sym e ∙ read-end (suc more) index rest (eqb-true (length rest) 0 t)))
    (λ t.
    let some = eqb-false (length rest) 0 t in
    by-test (λ _. (1 ≤ number) × (11 ≤ number → number ≡ 16)) (eqb (cue_refusal rest) 0)
    (λ u. refused-number more (suc index) (after_cue rest) (later-refused (read_up_to more (suc index) (after_cue rest)) (sym (read_next more index rest some (eqb-true (cue_refusal rest) 0 u)) ∙ e)))
    (λ u.
    let s = eqb-false (cue_refusal rest) 0 u in
    let is = ap refusal_of (sym (read-refused more index rest some refl s) ∙ e) in
    (omega (arith, s, is), λ h. sym is ∙ cue-gap rest (omega (arith, is)))))
  where
    later-refused : (r : Reading) → followed (cue_of rest) r ≡ refused number at → r ≡ refused number at
    later-refused (refused n i) e = e
    later-refused (cues cs) e = not-both (sym e)

-- the same of a whole book
book-number : (book : List ℕ) {number at : ℕ} → read_book book ≡ refused number at → (1 ≤ number) × (11 ≤ number → number ≡ 16)
unfolding read_book
book-number book e = refused-number 999 0 book e

-- so a book is refused, with that number and index, or is its cues
pub refused-book : (book : List ℕ) → (refusal_of (read_book book) ≡ 0 → ⊥) → read_book book ≡ refused (refusal_of (read_book book)) (number_of (read_book book))
refused-book book = by-reading (read_book book)
  where
    by-reading : (r : Reading) → (refusal_of r ≡ 0 → ⊥) → r ≡ refused (refusal_of r) (number_of r)
    by-reading (refused number index) some = refl
    by-reading (cues cs) some = absurd (some refl)

-- a number from 11 on is 16
pub book-gap : (book : List ℕ) → 11 ≤ refusal_of (read_book book) → refusal_of (read_book book) ≡ 16
book-gap book = by-reading (read_book book) refl
  where
    by-reading : (r : Reading) → read_book book ≡ r → 11 ≤ refusal_of r → refusal_of r ≡ 16
    by-reading (refused number index) e = (book-number book e).1
    by-reading (cues cs) e = λ h. absurd (omega arith)

pub accepted-book : (book : List ℕ) → refusal_of (read_book book) ≡ 0 → (read_book book ≡ cues (cues_in (read_book book))) × (number_of (read_book book) ≡ length (cues_in (read_book book)))
accepted-book book z = by-reading (read_book book) refl
  where
    by-reading : (r : Reading) → read_book book ≡ r → (read_book book ≡ cues (cues_in (read_book book))) × (number_of (read_book book) ≡ length (cues_in (read_book book)))
    by-reading (refused number index) e =
        let some : 1 ≤ number = (book-number book e).0 in
        let none : number ≡ 0 = sym (ap refusal_of e) ∙ z in
        absurd (omega arith)
    by-reading (cues cs) e = (e ∙ ap (λ (r : Reading). cues (cues_in r)) (sym e), ap number_of e ∙ ap (λ (r : Reading). length (cues_in r)) (sym e))

-- ---- how long an accepted book is

-- a cue has a few fields, and each takes at most 65,538 bytes: for a cue a million is a bound that leaves room
reading-most : (cs : List Cue) (more index : ℕ) (rest : List ℕ) → Bytes rest → read_up_to more index rest ≡ cues cs → length rest ≤ 1000000 * more
reading-most [] more index rest b e = omega (arith, ends more index rest e)
reading-most (c ∷ cs) more index rest b e =
    let g = begins more index rest c cs e in
    omega
    (arith, g.fewer-is, form-most cue_form rest b, length-drop (cue_size rest) rest, reading-most cs g.fewer (suc index) (after_cue rest) (bytes_drop rest (cue_size rest) b) g.then)

-- so its length fits into 32 bits
pub book-most : (book : List ℕ) → Bytes book → {cs : List Cue} → read_book book ≡ cues cs → length book ≤ 999000000
unfolding read_book
book-most book b {cs} e = omega (arith, reading-most cs 999 0 book b e)

-- ---- where cues and titles stand

-- the first cue left out, the others stand where they did
pub place-next : (rest : List ℕ) (k : ℕ) → cue_place rest (suc k) ≡ cue_size rest + cue_place (after_cue rest) k
unfolding cue_place
place-next rest zero = omega arith
place-next rest (suc k) =
    let on = place-next rest k in
    let p : ℕ = cue_place (after_cue rest) k in
    let here : drop (cue_place rest (suc k)) rest ≡ drop p (after_cue rest) = ap (λ (n : ℕ). drop n rest) on ∙ after-field rest (cue_size rest) p in
    omega (arith, on, ap cue_size here)

-- what is left at the cue of an index
pub left-next : (rest : List ℕ) (k : ℕ) → drop (cue_place rest (suc k)) rest ≡ drop (cue_place (after_cue rest) k) (after_cue rest)
left-next rest k = ap (λ (n : ℕ). drop n rest) (place-next rest k) ∙ after-field rest (cue_size rest) (cue_place (after_cue rest) k)

-- at the place of a cue that was read, that cue is read
pub record There (rest : List ℕ) (k : ℕ) (c : Cue) : Type 0 where
  pub none : cue_refusal (drop (cue_place rest k) rest) ≡ 0
  pub value : cue_of (drop (cue_place rest k) rest) ≡ c

pub there : (k more index : ℕ) (rest : List ℕ) (cs : List Cue) (d : Cue) → read_up_to more index rest ≡ cues cs → k < length cs → There rest k (get_or cs k d)
unfolding cue_place
there k more index rest [] d e h = absurd (omega arith)
there zero more index rest (c ∷ cs) d e h = let b = begins more index rest c cs e in record { none = b.none; value = b.cue }
there (suc k) more index rest (c ∷ cs) d e h =
    let b = begins more index rest c cs e in
    let t = there k b.fewer (suc index) (after_cue rest) cs d b.then (omega arith) in
    record { none = ap cue_refusal (left-next rest k) ∙ t.none; value = ap cue_of (left-next rest k) ∙ t.value }

-- the same of a whole book
book-there : (book : List ℕ) (k : ℕ) {cs : List Cue} (d : Cue) → read_book book ≡ cues cs → k < length cs → There book k (get_or cs k d)
unfolding read_book
book-there book k {cs} d e h = there k 999 0 book cs d e h

-- so it lies in the book
there-inside : {rest : List ℕ} {k : ℕ} {c : Cue} → There rest k c → cue_place rest k + cue_size (drop (cue_place rest k) rest) ≤ length rest
there-inside {rest} {k} t =
    let here : List ℕ = drop (cue_place rest k) rest in
    omega (arith, cue-inside here t.none, (cue-phrase here t.none).header, length-drop (cue_place rest k) rest)

-- `read_cue` at the place of an accepted book's cue gives that cue, whole, and ends where the next one begins
pub cue-there : (book : List ℕ) (before : List Cue) (c : Cue) (later : List Cue) → read_book book ≡ cues (before ++ c ∷ later) → {r : Result found.Cue Refusal}
    → CueRead book (cue_place book (length before)) r → CueBack book (length before) c r
unfolding cue_at cue_place
cue-there book before c later e {r} read =
    let k : ℕ = length before in
    let rest : List ℕ = drop (cue_place book k) book in
    let short : k < length (before ++ c ∷ later) = omega (arith, length-append before (c ∷ later)) in
    let t = book-there book k c e short in
    let on = eq-eqb (cue_refusal rest) 0 t.none in
    record {
      number = read.number ∙ t.none;
      meant = read.meant ∙ rw on (ap (λ (d : Cue). d ∷ []) (t.value ∙ get_or-append_seam before c later c));
      next = ap cue_end read.answer ∙ rw on;
    }

title-of : (cs : List Cue) (k : ℕ) (d : Cue) → k < length cs → (get_or cs k d).title ≡ title_at cs k
unfolding title_at
title-of [] k d h = absurd (omega arith)
title-of (c ∷ cs) zero d h = refl
title-of (c ∷ cs) (suc k) d h = title-of cs k d (omega arith)

title-there : {rest : List ℕ} {k : ℕ} {c : Cue} → There rest k c → field_body (after_form head_form (drop (cue_place rest k) rest)) ≡ c.title
title-there {rest} {k} t = title-body (drop (cue_place rest k) rest) ∙ ap (λ (d : Cue). d.title) t.value

-- the title's part of the book
title-part : (book : List ℕ) (k : ℕ) → let p = title_in book k in take p.len (drop p.start book) ≡ field_body (after_form head_form (drop (cue_place book k) book))
title-part book k =
    let rest : List ℕ = drop (cue_place book k) book in
    ap (λ (l : List ℕ). take (title_length rest) l) (after-field book (cue_place book k) (start_of_title rest) ∙ after-field rest (form_size head_form rest) 3)

-- ---- along an accepted book: what is left of it at a place reads as these cues, the first with that index

pub record Left (book : List ℕ) (index place : ℕ) (rest : List Cue) : Type 0 where
  pub more : ℕ
  pub count : more + index ≡ 999
  pub reads : read_up_to more index (drop place book) ≡ cues rest

pub left-all : {book : List ℕ} {cs : List Cue} → read_book book ≡ cues cs → Left book 0 0 cs
unfolding read_book
left-all e = record { more = 999; count = omega arith; reads = e }

-- the first of them stands here, and the others after it
pub record First (book : List ℕ) (index place : ℕ) (c : Cue) (later : List Cue) : Type 0 where
  pub none : cue_refusal (drop place book) ≡ 0
  pub cue : cue_of (drop place book) ≡ c
  pub then : {end : ℕ} → end ≡ place + cue_size (drop place book) → Left book (index + 1) end later

pub left-first : {book : List ℕ} {index place : ℕ} {c : Cue} {later : List Cue} → Left book index place (c ∷ later) → First book index place c later
left-first {book} {index} {place} {c} {later} l =
    let b = begins l.more index (drop place book) c later l.reads in
    record {
      none = b.none;
      cue = b.cue;
      then = λ e.
          record {
            more = b.fewer;
            count = omega (arith, l.count, b.fewer-is);
            reads = ap₂ (λ (i : ℕ) (x : List ℕ). read_up_to b.fewer i x) (add-one index) (ap (λ (k : ℕ). drop k book) e ∙ after-field book place (cue_size (drop place book))) ∙ b.then;
          };
    }

-- the cues left after one that is passed over without a number are left with the index of that one
pub left-same : {book : List ℕ} {index place : ℕ} {rest : List Cue} → Left book (index + 1) place rest → Left book index place rest
left-same {book} {index} {place} {rest} l = record { more = suc l.more; count = omega (arith, l.count); reads = read-slack rest l.more (index + 1) index (drop place book) l.reads }

-- ---- the cues that are chosen for a role and a day

-- of no cue there are none
pub for-nothing : (who : Choice) → playing_for who [] ≡ []
for-nothing who = ap (playing who.day) (those-nothing (seen_by who.role)) ∙ those-nothing (plays_on who.day)

-- of some cues and one more
for-more : (who : Choice) (done : List Cue) (c : Cue) → length (playing_for who (done ++ c ∷ [])) ≡ length (playing_for who done) + length (playing_for who (c ∷ []))
for-more who done c =
    ap (λ (l : List Cue). length (playing who.day l)) (those-append (seen_by who.role) done (c ∷ []))
    ∙ ap length (those-append (plays_on who.day) (seen who.role done) (seen who.role (c ∷ [])))
    ∙ length-append (playing_for who done) (playing_for who (c ∷ []))

-- of one: it is chosen, or it is not
for-one : (who : Choice) (c : Cue) → length (playing_for who (c ∷ [])) ≡ cond (is_chosen who c.mark c.days) 1 0
unfolding those
for-one who c =
    by-test (λ t. length (playing who.day (cond t (c ∷ []) [])) ≡ cond (t && plays_on who.day c) 1 0) (seen_by who.role c)
    (λ _. by-test (λ t. length (cond t (c ∷ []) []) ≡ cond t 1 0) (plays_on who.day c) (λ _. refl) (λ _. refl))
    (λ _. refl)

-- ---- at a cue of a walk: the cues read so far, and the rest, are the whole book

-- cues before what the rest reads as
unfoldable pub followed_all : List Cue → Reading → Reading
followed_all [] r = r
followed_all (c ∷ cs) r = followed c (followed_all cs r)

pub all_more : (done : List Cue) (c : Cue) (r : Reading) → followed_all (done ++ c ∷ []) r ≡ followed_all done (followed c r)
unfolding followed_all
all_more [] c r = refl
all_more (d ∷ done) c r = ap (followed d) (all_more done c r)

pub all-refused : (done : List Cue) (number index : ℕ) → followed_all done (refused number index) ≡ refused number index
unfolding followed_all
all-refused [] number index = refl
all-refused (d ∷ done) number index = ap (followed d) (all-refused done number index)

pub all-cues : (done cs : List Cue) → followed_all done (cues cs) ≡ cues (done ++ cs)
unfolding followed_all
all-cues [] cs = refl
all-cues (d ∷ done) cs = ap (followed d) (all-cues done cs)

pub record ReadSoFar (book : List ℕ) (index place : ℕ) : Type 0 where
  pub done : List Cue
  pub counted : length done ≡ index
  pub more : ℕ
  pub left : more + index ≡ 999
  pub whole : read_book book ≡ followed_all done (read_up_to more index (drop place book))
  pub here : place ≡ cue_place book index
  pub inside : place ≤ length book

pub so-far-first : (book : List ℕ) → ReadSoFar book 0 0
unfolding read_book followed_all cue_place
so-far-first book = record { done = []; counted = refl; more = 999; left = omega arith; whole = refl; here = refl; inside = omega arith }

module _ {book : List ℕ} {index place : ℕ} (a : ReadSoFar book index place) where
  left-some : place < length book → length (drop place book) ≡ 0 → ⊥
  left-some h z = omega (arith, length-drop place book)

  -- bytes remain after 999 cues
  pub so-far-over : place < length book → index ≡ 999 → read_book book ≡ refused 10 999
  so-far-over h n =
      let e : a.more ≡ 0 = omega (arith, a.left) in
      a.whole ∙ ap (followed_all a.done) (ap₂ (λ (m i : ℕ). read_up_to m i (drop place book)) e n ∙ read-over 999 (drop place book) (left-some h)) ∙ all-refused a.done 10 999

  -- the next cue is refused
  pub so-far-refused : {number : ℕ} → place < length book → index < 999 → cue_refusal (drop place book) ≡ number → (number ≡ 0 → ⊥) → read_book book ≡ refused number index
  so-far-refused {number} h n e some =
      let m : a.more ≡ suc (a.more - 1) = omega (arith, a.left) in
      a.whole ∙ ap (followed_all a.done) (ap (λ (m : ℕ). read_up_to m index (drop place book)) m ∙ read-refused (a.more - 1) index (drop place book) (left-some h) e some) ∙ all-refused a.done number index

  -- the next cue is read
  pub so-far-next : {next : ℕ} → place < length book → index < 999 → cue_refusal (drop place book) ≡ 0 → next ≡ place + cue_size (drop place book) → ReadSoFar book (index + 1) next
  unfolding cue_place
  so-far-next {next} h n e p =
      let m : a.more ≡ suc (a.more - 1) = omega (arith, a.left) in
      let c = cue_of (drop place book) in
      let rest : drop next book ≡ after_cue (drop place book) = ap (λ (k : ℕ). drop k book) p ∙ after-field book place (cue_size (drop place book)) in
      record {
        done = a.done ++ c ∷ [];
        counted = length-append a.done (c ∷ []) ∙ omega (arith, a.counted);
        more = a.more - 1;
        left = omega (arith, a.left);
        whole =
            a.whole ∙ ap (followed_all a.done) (ap (λ (m : ℕ). read_up_to m index (drop place book)) m ∙ read_next (a.more - 1) index (drop place book) (left-some h) e)
            ∙ sym (all_more a.done c (read_up_to (a.more - 1) (suc index) (after_cue (drop place book))))
            ∙ ap₂ (λ (i : ℕ) (l : List ℕ). followed_all (a.done ++ c ∷ []) (read_up_to (a.more - 1) i l)) (sym (add-one index)) (sym rest);
        here = rw (add-one index) (p ∙ ap (λ (k : ℕ). k + cue_size (drop k book)) a.here);
        inside = omega (arith, p, cue-inside (drop place book) e, length-drop place book);
      }

  -- the book ends here
  pub so-far-end : length book ≤ place → read_book book ≡ cues a.done
  so-far-end h =
      a.whole ∙ ap (followed_all a.done) (read-end a.more index (drop place book) (omega (arith, length-drop place book))) ∙ all-cues a.done [] ∙ ap cues (append-nil a.done)

-- ---- the cues that are chosen, counted by the walk

pub record Counted (book : List ℕ) (who : Choice) (index place count : ℕ) : Type 0 where
  pub so_far : ReadSoFar book index place
  pub are : count ≡ length (playing_for who so_far.done)

pub counted-first : (book : List ℕ) (who : Choice) → Counted book who 0 0 0
unfolding so-far-first
counted-first book who = record { so_far = so-far-first book; are = ap length (sym (for-nothing who)) }

-- there are no more of them than cues
pub counted-few : {book : List ℕ} {who : Choice} {index place count : ℕ} → Counted book who index place count → count ≤ index
counted-few {book} {who} a =
    let done : List Cue = a.so_far.done in
    omega (arith, a.are, those-few (plays_on who.day) (seen who.role done), those-few (seen_by who.role) done, a.so_far.counted)

module _ {book : List ℕ} {who : Choice} {index place count : ℕ} {cue : found.Cue} (a : Counted book who index place count) (inside : place < length book) (few : index < 999) (c : CueAt book place cue) where
  -- one cue more, which counts for 1 or for 0
  counted-on : {more : ℕ} → more ≡ cond (is_chosen who cue.mark cue.days) 1 0 → Counted book who (index + 1) cue.end (count + more)
  unfolding so-far-next
  counted-on e =
      let d = cue_of (drop place book) in
      let one = for-one who d in
      let told : length (playing_for who (d ∷ [])) ≡ cond (is_chosen who cue.mark cue.days) 1 0 = one ∙ ap (λ (x : Cue). cond (is_chosen who x.mark x.days) 1 0) (sym c.meant) in
      record { so_far = so-far-next a.so_far inside few c.none (ap (λ (x : found.Cue). x.end) c.is); are = omega (arith, a.are, for-more who a.so_far.done d, told, e) }

  -- it is chosen, or it is not
  pub counted_next : {more : ℕ} → (is_chosen who cue.mark cue.days ≡ true → more ≡ count + 1) → (is_chosen who cue.mark cue.days ≡ false → more ≡ count) → Counted book who (index + 1) cue.end more
  counted_next {more} is_one is_none =
      by-test (λ _. Counted book who (index + 1) cue.end more) (is_chosen who cue.mark cue.days)
      (λ t. rw (is_one t) (counted-on (rw t)))
      (λ t. let none : more ≡ count + 0 = omega (arith, is_none t) in rw none (counted-on (rw t)))

-- what a book read for a role and a day gives back: by the definition, of a refused book, and of one that is accepted
pub chosen_is : (who : Choice) (book : List ℕ) → chosen_answer who book ≡ record { refusal = refusal_of (read_book book); number = chosen_of who (read_book book) }
unfolding chosen_answer
chosen_is who book = refl

pub chosen-refused : (who : Choice) (book : List ℕ) {number index : ℕ} → read_book book ≡ refused number index → chosen_answer who book ≡ record { refusal = number; number = index }
chosen-refused who book e = chosen_is who book ∙ rw e

pub chosen-cues : (who : Choice) (book : List ℕ) {cs : List Cue} → read_book book ≡ cues cs → chosen_answer who book ≡ record { refusal = 0; number = length (playing_for who cs) }
chosen-cues who book e = chosen_is who book ∙ rw e

-- ---- the wanted cue's title, noted by the walk

-- the part so far: that of the wanted cue once it has been passed
pub record Noted (book : List ℕ) (wanted index : ℕ) (p : Part) : Type 0 where
  pub is : p ≡ cond (ltb wanted index) (title_in book wanted) front

pub noted-first : (book : List ℕ) (wanted : ℕ) → Noted book wanted 0 front
noted-first book wanted = record { is = rw (le-ltb wanted 0 (omega arith)) }

pub noted_other : {book : List ℕ} {wanted index : ℕ} {p : Part} → (index ≡ wanted → ⊥) → Noted book wanted index p → Noted book wanted (index + 1) p
noted_other {book} {wanted} {index} {p} other n =
    by-test (λ t. (ltb wanted index ≡ t) → Noted book wanted (index + 1) p) (ltb wanted index)
    (λ _ e. record { is = n.is ∙ rw (e, lt-ltb wanted (index + 1) (omega (arith, ltb-true wanted index e))) })
    (λ _ e. record { is = n.is ∙ rw (e, le-ltb wanted (index + 1) (past (ltb-false wanted index e))) })
    refl
  where
    past : index ≤ wanted → index + 1 ≤ wanted
    past h = by-test (λ _. index + 1 ≤ wanted) (eqb index wanted) (λ e. absurd (other (eqb-true index wanted e))) (λ e. omega (arith, eqb-false index wanted e))

pub noted-this : {book : List ℕ} {wanted index place : ℕ} {cue : found.Cue} → ReadSoFar book index place → CueAt book place cue → index ≡ wanted
    → Noted book wanted (index + 1) (record { start = cue.title.start; len = cue.title.end - cue.title.start })
noted-this {book} {wanted} {index} {place} {cue} a c e =
    let here : cue_place book wanted ≡ place = ap (cue_place book) (sym e) ∙ sym a.here in
    let start : cue.title.start ≡ (title_in book wanted).start = ap (λ (x : found.Cue). x.title.start) c.is ∙ ap (λ (k : ℕ). k + start_of_title (drop k book)) (sym here) in
    let len : cue.title.end - cue.title.start ≡ title_length (drop place book) = omega (arith, (title-ends c).0) in
    record { is = rw (lt-ltb wanted (index + 1) (omega arith)) (ap₂ (λ (s l : ℕ). record { start = s; len = l }) start (len ∙ ap (λ (k : ℕ). title_length (drop k book)) (sym here))) }

-- the next cue is the wanted one, or it is another
pub noted_next : {book : List ℕ} {wanted index place : ℕ} {cue : found.Cue} {p p' : Part} → ReadSoFar book index place → CueAt book place cue → Noted book wanted index p
    → (index ≡ wanted → p' ≡ record { start = cue.title.start; len = cue.title.end - cue.title.start }) → ((index ≡ wanted → ⊥) → p' ≡ p) → Noted book wanted (index + 1) p'
noted_next {book} {wanted} {index} {p' = p'} a c n this other =
    by-test (λ _. Noted book wanted (index + 1) p') (eqb index wanted)
    (λ t. let e = eqb-true index wanted t in record { is = this e ∙ (noted-this a c e).is })
    (λ t. let e = eqb-false index wanted t in record { is = other e ∙ (noted_other e n).is })

-- what is shown in the end: by the definition, of a refused book, and of one that is accepted
part-is : (book : List ℕ) (wanted : ℕ) → title_part book wanted ≡ cond (ltb wanted (length (cues_in (read_book book)))) (title_in book wanted) front
unfolding title_part
part-is book wanted = refl

pub part-refused : (book : List ℕ) (wanted : ℕ) {number index : ℕ} → read_book book ≡ refused number index → title_part book wanted ≡ front
part-refused book wanted e = part-is book wanted ∙ rw (e, le-ltb wanted 0 (omega arith))

pub part-cues : (book : List ℕ) (wanted : ℕ) {cs : List Cue} → read_book book ≡ cues cs → title_part book wanted ≡ cond (ltb wanted (length cs)) (title_in book wanted) front
part-cues book wanted e = part-is book wanted ∙ rw e

-- ---- the title that is shown

-- a reading with cues is one of cues
some-cues : (r : Reading) {k : ℕ} → k < length (cues_in r) → r ≡ cues (cues_in r)
some-cues (refused number index) h = absurd (omega arith)
some-cues (cues cs) h = refl

title-past : (cs : List Cue) (k : ℕ) → length cs ≤ k → title_at cs k ≡ []
unfolding title_at
title-past [] k h = refl
title-past (c ∷ cs) zero h = absurd (omega arith)
title-past (c ∷ cs) (suc k) h = title-past cs k (omega arith)

pub title-shows : (book : List ℕ) (k : ℕ) → Shows book k (title_part book k)
title-shows book k =
    let cs = cues_in (read_book book) in
    subst (Shows book k) (sym (part-is book k))
    (by-test (λ t. Shows book k (cond t (title_in book k) front)) (ltb k (length cs))
    (λ t.
    let h = ltb-true k (length cs) t in
    let d : Cue = cue_of book in
    let t = book-there book k d (some-cues (read_book book) h) h in
    record { inside = omega (arith, there-inside t, title-last (drop (cue_place book k) book)); holds = title-part book k ∙ title-there t ∙ title-of cs k d h })
    (λ t. record { inside = omega arith; holds = sym (title-past cs k (ltb-false k (length cs) t)) }))

-- so a part that is the title's shows it
pub placed-shows : {book : List ℕ} {k : ℕ} {p : Part} → p ≡ title_part book k → TitlePlaced book k p
placed-shows {book} {k} is = record { answer = is; shows = ap (λ (q : Part). take q.len (drop q.start book)) is ∙ (title-shows book k).holds }

-- the part of a title that was placed lies in the book
pub placed-inside : {book : List ℕ} {k : ℕ} {r : Part} → TitlePlaced book k r → r.start + r.len ≤ length book
placed-inside {book} {k} p = omega (arith, ap (λ (q : Part). q.start) p.answer, ap (λ (q : Part). q.len) p.answer, (title-shows book k).inside)
