-- A call by its cases: what its tests leave, the outcome by what the book reads as, and what a call that gives 0, 12 or 15 has passed. For any fold. Assumes nothing.
use mathlib.Core.Path.{◌≡◌, refl, sym, ap, subst, ◌∙◌}
use Prim.Native.Nat.{ℕ, ◌*◌, ◌≤◌, ◌<◌}
use native.Mathlib.Omega.{arith}
use mathlib.Core.Bool.{Bool, true, false, cond}
use mathlib.Core.List.{List}
use lib.ListN.{length}
use lib.Dec.{eqb, ltb}
use borrow.Author.Tests.{eq-eqb, ne_eqb, eqb-true, eqb-false, lt-ltb, le-ltb, ltb-true, ltb-false, not-false}
use Rattle.matching.specs.Refusals.{first_met}
use Rattle.matching.proofs.CaseAnalysis.{by-test}
use Rattle.matching.proofs.Refusals.{Passed, numbers_to, all-passed, without, met-not}
use Rattle.roles.specs.Roles.{may_resolve}
use Rattle.calendar.specs.Calendar.{last_day}
use Rattle.fold.specs.Fold.{is_page}
use Rattle.cues.specs.Cue.{Cue}
use Rattle.cue_book.specs.Reading.{refused, cues, read_book, refusal_of, number_of, playing_for, cues_in}
use Rattle.cue_book.proofs.Books.{refused-book, book-gap, accepted-book}
use Rattle.outcome.specs.Outcome.{chosen, call_tests, call_refusal_of, Call, call_refusal, resolution, Outcome, refusing, with_cues, with_book, outcome}
use Rattle.outcome.specs.Told.{Another}
use Rattle.outcome.proofs.Choosing.{length-for}

-- ---- the tests before the book is read

-- 19 is tested first of all: a role that may not resolve is refused with it, whatever else
pub role-first : (c : Call) → may_resolve c.who.role ≡ false → call_refusal c ≡ 19
unfolding call_refusal_of first_met
role-first c may = rw may refl

-- and then 16: a day that the calendar has not is refused with it, whatever else
pub before-all : (c : Call) → may_resolve c.who.role ≡ true → last_day < c.who.day → call_refusal c ≡ 16
unfolding call_refusal_of first_met
before-all c may unknown = rw (may, lt-ltb last_day c.who.day unknown) refl

-- 14 is tested after 5: a short scratch is refused with 5 whatever the page
pub after-5 : (c : Call) → may_resolve c.who.role ≡ true → c.who.day ≤ last_day → length c.text ≤ 32768 → c.scratch < 65535 → call_refusal c ≡ 5
unfolding call_refusal_of first_met
after-5 c may day small short = rw (may, le-ltb last_day c.who.day day, le-ltb 32768 (length c.text) small, lt-ltb c.scratch 65535 short) refl

-- and before 6: an unknown page is refused with 14 whatever the copy
pub before-6 : (c : Call) → may_resolve c.who.role ≡ true → c.who.day ≤ last_day → length c.text ≤ 32768 → 65535 ≤ c.scratch → is_page c.page ≡ false → call_refusal c ≡ 14
unfolding call_refusal_of first_met
before-6 c may day small tables unknown = rw (may, le-ltb last_day c.who.day day, le-ltb 32768 (length c.text) small, le-ltb c.scratch 65535 tables, unknown) refl

-- what holds where none refuses
pub record Enough (c : Call) : Type 0 where
  pub small : length c.text ≤ 32768
  pub tables : 65535 ≤ c.scratch
  pub known : is_page c.page ≡ true
  pub whole : length c.text ≤ c.copy

pub enough : {c : Call} → call_refusal c ≡ 0 → Enough c
unfolding call_refusal_of Passed numbers_to
enough {c} e =
    let p = all-passed 19 (call_tests c.who c.page (length c.text) c.copy c.scratch) refl e in
    record {
      small = ltb-false 32768 (length c.text) p.1.1.0;
      tables = ltb-false c.scratch 65535 p.1.1.1.0;
      known = not-false (is_page c.page) p.1.1.1.1.0;
      whole = ltb-false c.copy (length c.text) p.1.1.1.1.1.0;
    }

-- none of them refuses with 12 or 15
pub call-another : (c : Call) → (call_refusal c ≡ 0 → ⊥) → Another (call_refusal c)
unfolding call_refusal_of without
call-another c some =
    let tests = call_tests c.who c.page (length c.text) c.copy c.scratch in
    record { not-0 = some; not-12 = met-not 12 tests refl (λ z. omega arith); not-15 = met-not 15 tests refl (λ z. omega arith) }

module _ (f : ℕ → ℕ) (c : Call) where
  -- ---- the outcome by its cases

  pub outcome-refused : (book : List ℕ) {number : ℕ} → number ≡ call_refusal c → (number ≡ 0 → ⊥) → outcome f c (read_book book) ≡ refusing number 0
  unfolding outcome
  outcome-refused book e some = rw (ne_eqb (call_refusal c) 0 (λ z. some (e ∙ z)), e)

  -- the cues of a book that the role sees and that play
  abbrev play : List Cue → List Cue
  play cs = playing_for c.who cs

  -- what comes of them, by whether the entries are too few
  abbrev resolved : List Cue → Bool → Outcome
  resolved cs short = cond short (refusing 11 0) (record { works = true; resolution = resolution f c.text (chosen c.who cs) })

  with-few : (cs : List Cue) → c.entries < 3 * length (play cs) → with_book f c (cues cs) ≡ refusing 11 0
  unfolding with_book with_cues
  with-few cs h = ap (resolved cs) (lt-ltb c.entries (3 * length (chosen c.who cs)) (omega (arith, length-for c.who cs)))

  with-enough : (cs : List Cue) → 3 * length (play cs) ≤ c.entries → with_book f c (cues cs) ≡ record { works = true; resolution = resolution f c.text (chosen c.who cs) }
  unfolding with_book with_cues
  with-enough cs h = ap (resolved cs) (le-ltb c.entries (3 * length (chosen c.who cs)) (omega (arith, length-for c.who cs)))

  with-refused : (number index : ℕ) → with_book f c (refused number index) ≡ refusing number index
  unfolding with_book
  with-refused number index = refl

  module _ (book : List ℕ) (fine : call_refusal c ≡ 0) where
    outcome-fine : outcome f c (read_book book) ≡ with_book f c (read_book book)
    unfolding outcome
    outcome-fine = ap (λ (t : Bool). cond t (with_book f c (read_book book)) (refusing (call_refusal c) 0)) (eq-eqb (call_refusal c) 0 fine)

    pub outcome-book : (refusal_of (read_book book) ≡ 0 → ⊥) → outcome f c (read_book book) ≡ refusing (refusal_of (read_book book)) (number_of (read_book book))
    outcome-book some = outcome-fine ∙ ap (with_book f c) (refused-book book some) ∙ with-refused (refusal_of (read_book book)) (number_of (read_book book))

    module _ {cs : List Cue} (read : read_book book ≡ cues cs) where
      pub outcome-few : c.entries < 3 * length (play cs) → outcome f c (read_book book) ≡ refusing 11 0
      outcome-few h = outcome-fine ∙ ap (with_book f c) read ∙ with-few cs h

      pub outcome-works : 3 * length (play cs) ≤ c.entries → outcome f c (read_book book) ≡ record { works = true; resolution = resolution f c.text (chosen c.who cs) }
      outcome-works h = outcome-fine ∙ ap (with_book f c) read ∙ with-enough cs h

  -- ---- a call that gives 0, 12 or 15

  -- every test before 12 was passed, the book reads as its cues, and the outcome is theirs
  pub record Reached (book : List ℕ) : Type 0 where
    pub read : read_book book ≡ cues (cues_in (read_book book))
    pub three : 3 * length (play (cues_in (read_book book))) ≤ c.entries
    pub is : outcome f c (read_book book) ≡ record { works = true; resolution = resolution f c.text (chosen c.who (cues_in (read_book book))) }

  abbrev given : List ℕ → ℕ
  given book = (outcome f c (read_book book)).resolution.refusal

  pub reached : (book : List ℕ) → (Another (given book) → ⊥) → Reached book
  reached book one =
      by-test (λ _. Reached book) (eqb (call_refusal c) 0)
      (λ t. with-memory (eqb-true (call_refusal c) 0 t))
      (λ t. let some = eqb-false (call_refusal c) 0 t in other (outcome-refused book refl some) (call-another c some))
    where
      -- no refusal before 12 is one of them
      other : {number index : ℕ} → outcome f c (read_book book) ≡ refusing number index → Another number → Reached book
      other e a = absurd (one (subst Another (sym (ap (λ (o : Outcome). o.resolution.refusal) e)) a))

      with-cues : call_refusal c ≡ 0 → read_book book ≡ cues (cues_in (read_book book)) → Reached book
      with-cues fine read =
          let cs = cues_in (read_book book) in
          by-test (λ _. Reached book) (ltb c.entries (3 * length (play cs)))
          (λ t. other (outcome-few book fine read (ltb-true c.entries (3 * length (play cs)) t)) (record { not-0 = λ z. omega arith; not-12 = λ z. omega arith; not-15 = λ z. omega arith }))
          (λ t. let h = ltb-false c.entries (3 * length (play cs)) t in record { read = read; three = h; is = outcome-works book fine read h })

      -- a book's refusal from 11 on is 16
      apart : {n : ℕ} → refusal_of (read_book book) ≡ n → 11 ≤ n → (n ≡ 16 → ⊥) → ⊥
      apart z h not = not (sym z ∙ book-gap book (omega (arith, z)))

      with-memory : call_refusal c ≡ 0 → Reached book
      with-memory fine =
          let number : ℕ = refusal_of (read_book book) in
          by-test (λ _. Reached book) (eqb number 0)
          (λ t. with-cues fine (accepted-book book (eqb-true number 0 t)).0)
          (λ t.
          let some = eqb-false number 0 t in
          other (outcome-book book fine some) (record { not-0 = some; not-12 = λ z. apart z (omega arith) (λ e. omega arith); not-15 = λ z. apart z (omega arith) (λ e. omega arith) }))
