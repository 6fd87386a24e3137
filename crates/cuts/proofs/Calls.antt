-- The refusals of a call: which row is met after those that were passed, and what is known where none is (`Taken`). Assumes nothing.
use mathlib.Core.Path.{◌≡◌, refl, sym, ◌∙◌}
use Prim.Native.Nat.{ℕ, ◌+◌, ◌-◌, ◌≤◌, ◌<◌}
use native.Mathlib.Omega.{arith}
use mathlib.Core.Bool.{true, false, not, ◌&&◌}
use mathlib.Core.List.{List, ◌++◌}
use lib.ListN.{length, take, drop, length-append, length-drop}
use lib.Seq.{length-take-le}
use lib.Dec.{eqb, ltb}
use borrow.Author.Tests.{lt-ltb, le-ltb, ltb-false, eqb-true, eqb-false, not-false}
use Rattle.matching.specs.declared.refusal.Refusal.{Refusal}
use Rattle.matching.specs.Refusals.{first_met}
use Rattle.matching.specs.Results.{number_of}
use Rattle.matching.specs.Find.{find_tests, refusal}
use Rattle.matching.proofs.CaseAnalysis.{by-test, both, neither}
use Rattle.matching.proofs.Refusals.{Passed, met-before, met-after, numbers_to, all-passed}
use Rattle.matching.proofs.Find.{within, number-some}
use Rattle.cuts.specs.Cuts.{Cut, new_text, rises, all_fit, cut_tests, relist_refusal}

-- the new text's length
pub length-new : (T : List ℕ) (c : Cut) → c.start ≤ length T → length (new_text T c) ≡ c.start + length c.letters + (length T - c.end)
length-new T c h =
    length-append (take c.start T ++ c.letters) (drop c.end T)
    ∙ omega (arith, length-append (take c.start T) c.letters, length-take-le c.start T h, length-drop c.end T)

-- what is known of a call that is not refused
pub record Taken (P T list : List ℕ) (c : Cut) : Type 0 where
  pub some : 1 ≤ length P
  pub short : length P ≤ 1024
  pub small : length T ≤ 32768
  pub ordered : c.start ≤ c.end
  pub inside : c.end ≤ length T
  pub rising : rises list ≡ true
  pub fits : all_fit (length P) (length T) list ≡ true
  pub new : length (new_text T c) ≤ 32768

module _ (P T list : List ℕ) (c : Cut) where
  -- the refusal of phrase and old text, as of a find without a scratch
  abbrev first : ℕ
  first = refusal (length P) (length T) 0 0

  pub refused-first : (first ≡ 0 → ⊥) → relist_refusal P T list c ≡ first
  unfolding relist_refusal refusal
  refused-first some = met-before (find_tests (length P) (length T) 0 0) (cut_tests P T list c) some

  pub refused_err : (r : Refusal) → number_of r ≡ first → number_of r ≡ relist_refusal P T list c
  refused_err r is = is ∙ sym (refused-first (λ z. omega (arith, number-some r)))

  -- where there is none, the cut's rows decide
  cut-decides : first ≡ 0 → relist_refusal P T list c ≡ first_met (cut_tests P T list c)
  unfolding relist_refusal refusal numbers_to
  cut-decides none = met-after (find_tests (length P) (length T) 0 0) (cut_tests P T list c) (all-passed 5 (find_tests (length P) (length T) 0 0) refl none)

  module _ (none : first ≡ 0) where
    pub refused-order : c.end < c.start → relist_refusal P T list c ≡ 17
    unfolding first_met
    refused-order h = cut-decides none ∙ rw (lt-ltb c.end c.start h)

    module _ (ordered : c.start ≤ c.end) where
      pub refused-past : length T < c.end → relist_refusal P T list c ≡ 17
      unfolding first_met
      refused-past h = cut-decides none ∙ rw (le-ltb c.end c.start ordered, lt-ltb (length T) c.end h)

      module _ (inside : c.end ≤ length T) where
        pub refused-list : not (rises list && all_fit (length P) (length T) list) ≡ true → relist_refusal P T list c ≡ 18
        unfolding first_met
        refused-list e = cut-decides none ∙ rw (le-ltb c.end c.start ordered, le-ltb (length T) c.end inside, e)

        module _ (good : not (rises list && all_fit (length P) (length T) list) ≡ false) where
          pub refused-new : 32768 < c.start + length c.letters + (length T - c.end) → relist_refusal P T list c ≡ 4
          unfolding first_met
          refused-new h =
              let size = length-new T c (omega arith) in
              cut-decides none ∙ rw (le-ltb c.end c.start ordered, le-ltb (length T) c.end inside, good, lt-ltb 32768 (length (new_text T c)) (omega arith))

          pub refused-not : c.start + length c.letters + (length T - c.end) ≤ 32768 → relist_refusal P T list c ≡ 0
          unfolding first_met
          refused-not h =
              let size = length-new T c (omega arith) in
              cut-decides none ∙ rw (le-ltb c.end c.start ordered, le-ltb (length T) c.end inside, good, le-ltb 32768 (length (new_text T c)) (omega arith))

  -- no refusal means that every row was passed
  first-none : relist_refusal P T list c ≡ 0 → first ≡ 0
  first-none e = by-test (λ _. first ≡ 0) (eqb first 0) (λ t. eqb-true first 0 t) (λ t. sym (refused-first (eqb-false first 0 t)) ∙ e)

  pub taken : {number : ℕ} → number ≡ relist_refusal P T list c → number ≡ 0 → Taken P T list c
  unfolding Passed numbers_to
  taken is zero =
      let e : relist_refusal P T list c ≡ 0 = sym is ∙ zero in
      let none = first-none e in
      let w = within (length P) (length T) 0 0 none in
      let p = all-passed 18 (cut_tests P T list c) refl (sym (cut-decides none) ∙ e) in
      let stretch = neither (ltb c.end c.start) (ltb (length T) c.end) p.0 in
      let good = both (rises list) (all_fit (length P) (length T) list) (not-false (rises list && all_fit (length P) (length T) list) p.1.0) in
      record {
        some = w.some;
        short = w.short;
        small = w.small;
        ordered = ltb-false c.end c.start stretch.0;
        inside = ltb-false (length T) c.end stretch.1;
        rising = good.0;
        fits = good.1;
        new = ltb-false 32768 (length (new_text T c)) p.1.1.0;
      }

-- by these each return of `refused` is the row that it says
pub ruleset rows = (refused_err, refused-order, refused-past, refused-list, refused-new, refused-not)
