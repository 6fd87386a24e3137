-- What `Found` asks of a refused find, and of one that is not refused; the limits that hold where a find is not refused; and a pattern longer than the text. For any engine.
-- Assumes nothing.
use mathlib.Core.Path.{◌≡◌, refl, ◌∙◌, sym, ap}
use Prim.Native.Nat.{ℕ, suc, ◌≤◌, ◌<◌}
use native.Mathlib.Omega.{arith}
use mathlib.Core.Bool.{true, false}
use mathlib.Core.List.{List}
use lib.ListN.{length}
use lib.Dec.{eqb}
use borrow.Author.Tests.{eqb-true, eq-eqb, ne_eqb, eqb-false, ltb-false, le-ltb, lt-ltb}
use Rattle.std.proofs.Common.{Err}
use Rattle.matching.specs.declared.Finding.{Finding}
use Rattle.matching.specs.declared.refusal.Refusal.{Refusal}
use Rattle.matching.specs.declared.refusal.Refusal.TheVariants.{UnknownMethod, NoPhrase, LongPhrase, LongText, ShortScratch, ShortBuffer, CutField, WrongTag, BadField, LongBook, ShortEntries, NoOccurrence, LongCue, UnknownPage, NotForward, BadDate, BadStretch, BadList, NotAllowed}
use Rattle.matching.specs.Results.{number_of, finding}
use Rattle.matching.specs.Occurrences.{occurrences}
use Rattle.matching.specs.Received.{received}
use Rattle.matching.specs.Refusals.{first_met}
use Rattle.matching.specs.Machine.{run_from, compared_in}
use Rattle.matching.specs.Find.{find_tests, refusal, Engine, compared, refusal_of, Found, Longer}
use Rattle.matching.proofs.CaseAnalysis.{by-test}
use Rattle.matching.proofs.Refusals.{Passed, none-met, numbers_to, all-passed, met-most}
use Rattle.matching.proofs.Received.{received_none}
use Rattle.matching.proofs.Occurrences.{occurrences-none}
use Rattle.matching.proofs.Machine.{windows-off}

-- the limits that a find keeps where it does not refuse
pub record Within (m n has needs : ℕ) : Type 0 where
  pub some : 1 ≤ m
  pub short : m ≤ 1024
  pub small : n ≤ 32768
  pub room : needs ≤ has

-- no refusal means that the limits are kept
pub within : (m n has needs : ℕ) → refusal m n has needs ≡ 0 → Within m n has needs
unfolding refusal Passed numbers_to
within m n has needs e =
    let p = all-passed 5 (find_tests m n has needs) refl e in
    record { some = omega (arith, eqb-false m 0 p.0); short = ltb-false 1024 m p.1.0; small = ltb-false 32768 n p.1.1.0; room = ltb-false has needs p.1.1.1.0 }

-- and the limits kept mean no refusal
pub none-refused : (m n has needs : ℕ) → Within m n has needs → refusal m n has needs ≡ 0
unfolding refusal Passed
none-refused m n has needs w =
    none-met (find_tests m n has needs) (ne_eqb m 0 (λ e. omega (arith, w.some)), (le-ltb 1024 m w.short, (le-ltb 32768 n w.small, (le-ltb has needs w.room, tt))))

-- a pattern that is too long is refused whatever scratch it needs
pub long-refused : (m n has needs needs' : ℕ) → 1024 < m → refusal m n has needs ≡ refusal m n has needs'
unfolding refusal first_met
long-refused m n has needs needs' h = rw (ne_eqb m 0 (λ e. omega arith), lt-ltb 1024 m h)

-- a refusal's number is at most 5
pub refusal-most : (m n has needs : ℕ) → refusal m n has needs ≤ 5
unfolding refusal numbers_to
refusal-most m n has needs = met-most 5 (find_tests m n has needs) refl

-- no refusal has the number 0
pub number-some : (r : Refusal) → 1 ≤ number_of r
number-some UnknownMethod = omega arith
number-some NoPhrase = omega arith
number-some LongPhrase = omega arith
number-some LongText = omega arith
number-some ShortScratch = omega arith
number-some ShortBuffer = omega arith
number-some CutField = omega arith
number-some WrongTag = omega arith
number-some BadField = omega arith
number-some LongBook = omega arith
number-some ShortEntries = omega arith
number-some NoOccurrence = omega arith
number-some LongCue = omega arith
number-some UnknownPage = omega arith
number-some NotForward = omega arith
number-some BadDate = omega arith
number-some BadStretch = omega arith
number-some BadList = omega arith
number-some NotAllowed = omega arith

-- a pattern longer than the text, of any lengths: no window lies in the text, so no engine compares a pair
pub longer-costs : (e : Engine) (P T : List ℕ) → length T < length P → compared e P T ≡ 0
unfolding compared run_from compared_in
longer-costs e P T h = ap compared_in (windows-off (suc (length T)) e.steps P T 0 0 (omega arith))

module _ {e : Engine} {P T scratch list : List ℕ} where
  -- a refusal leaves all as before
  pub found-refused : {number : ℕ} → number ≡ refusal_of e P T scratch → (number ≡ 0 → ⊥) → Found e P T scratch list (record { refusal = number; total = 0; comparisons = 0 }) scratch list
  found-refused {number} is some =
      let off : eqb (refusal_of e P T scratch) 0 ≡ false = ne_eqb (refusal_of e P T scratch) 0 (λ z. some (is ∙ z)) in
      record {
        answer = rw (off, is);
        left = rw off;
        listed = rw off;
      }

  -- and so does one that is told by its name
  pub found-err : (r : Refusal) → number_of r ≡ refusal_of e P T scratch → Found e P T scratch list (finding (Err r)) scratch list
  found-err r is = found-refused is (λ z. omega (arith, number-some r))

  -- a find that is not refused: its answer and what it leaves
  pub found-accepted : refusal_of e P T scratch ≡ 0 → {total comparisons : ℕ} {scratch' list' : List ℕ} → total ≡ length (occurrences P T) → comparisons ≡ compared e P T
      → scratch' ≡ received scratch (e.tables P) → list' ≡ received list (occurrences P T)
      → Found e P T scratch list (record { refusal = 0; total = total; comparisons = comparisons }) scratch' list'
  found-accepted none a b c d =
      let on : eqb (refusal_of e P T scratch) 0 ≡ true = eq-eqb (refusal_of e P T scratch) 0 none in
      record {
        answer = rw (on, a, b);
        left = rw on c;
        listed = rw on d;
      }

  -- and back: what `Found` says of a find that is not refused
  module _ {r : Finding} {scratch' list' : List ℕ} (f : Found e P T scratch list r scratch' list') (none : refusal_of e P T scratch ≡ 0) where
    on : eqb (refusal_of e P T scratch) 0 ≡ true
    on = eq-eqb (refusal_of e P T scratch) 0 none

    pub found-answer : r ≡ record { refusal = 0; total = length (occurrences P T); comparisons = compared e P T }
    found-answer = f.answer ∙ rw on

    pub found-listed : list' ≡ received list (occurrences P T)
    found-listed = f.listed ∙ rw on

    pub found_left : scratch' ≡ received scratch (e.tables P)
    found_left = f.left ∙ rw on

  -- what `Found` says of a refused find's answer
  refused-answer : {r : Finding} {scratch' list' : List ℕ} → Found e P T scratch list r scratch' list' → eqb (refusal_of e P T scratch) 0 ≡ false
      → r ≡ record { refusal = refusal_of e P T scratch; total = 0; comparisons = 0 }
  refused-answer f off = f.answer ∙ rw off

  -- a find that returns no refusal met none
  pub found_none : {r : Finding} {scratch' list' : List ℕ} → Found e P T scratch list r scratch' list' → r.refusal ≡ 0 → refusal_of e P T scratch ≡ 0
  found_none {r} f z =
      by-test (λ _. refusal_of e P T scratch ≡ 0) (eqb (refusal_of e P T scratch) 0)
      (λ t. eqb-true (refusal_of e P T scratch) 0 t)
      (λ t. sym (ap (λ (x : Finding). x.refusal) (refused-answer f t)) ∙ z)

  -- the comparisons of a find: those of the engine's steps where it is not refused, and otherwise none. So a bound on the steps of every pattern that a find takes bounds them
  module _ {r : Finding} {scratch' list' : List ℕ} (f : Found e P T scratch list r scratch' list') where
    pub found-compared : r.refusal ≡ 0 → r.comparisons ≡ compared e P T
    found-compared z = ap (λ (x : Finding). x.comparisons) (found-answer f (found_none f z))

    pub found-most : {most : ℕ} → (1 ≤ length P → compared e P T ≤ most) → r.comparisons ≤ most
    found-most {most} bound =
        by-test (λ _. r.comparisons ≤ most) (eqb (refusal_of e P T scratch) 0)
        (λ t.
        let none = eqb-true (refusal_of e P T scratch) 0 t in
        omega (arith, ap (λ (x : Finding). x.comparisons) (found-answer f none), bound (within (length P) (length T) (length scratch) _ none).some))
        (λ t. omega (arith, ap (λ (x : Finding). x.comparisons) (refused-answer f t)))

  -- a find of a pattern longer than the text that is not refused
  pub found-longer : {r : Finding} {scratch' list' : List ℕ} → Found e P T scratch list r scratch' list' → r.refusal ≡ 0 → length T < length P → Longer e P scratch list r scratch' list'
  found-longer f z h =
      let none = found_none f z in
      record {
        answer = found-answer f none ∙ rw (occurrences-none P T h, longer-costs e P T h);
        left = found_left f none;
        listed = found-listed f none ∙ ap (received list) (occurrences-none P T h) ∙ received_none list;
      }
