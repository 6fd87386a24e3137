-- Those of some things that pass a test: `those` of specs/Joined.antt. Assumes nothing.
use mathlib.Core.Path.{◌≡◌, refl, sym, ap, ap₂, ◌∙◌}
use mathlib.Core.Logic.{⊎_elim}
use Prim.Native.Nat.{suc, ◌≤◌}
use native.Mathlib.Omega.{arith}
use mathlib.Core.Bool.{Bool, true, false, cond}
use mathlib.Core.List.{List, [], ◌∷◌, ◌++◌, Memᴰ}
use lib.ListN.{length}
use Rattle.matching.specs.Joined.{those}
use Rattle.matching.proofs.CaseAnalysis.{by-test}

module _ {A : Type 0} (test : A → Bool) where
  pub those-append : (ks js : List A) → those test (ks ++ js) ≡ those test ks ++ those test js
  unfolding those
  those-append [] js = refl
  those-append (k ∷ ks) js =
      rw (those-append ks js)
      (by-test (λ t. cond t (k ∷ those test ks ++ those test js) (those test ks ++ those test js) ≡ cond t (k ∷ those test ks) (those test ks) ++ those test js) (test k) (λ _. refl) (λ _. refl))

  -- of none, and how many there are at most
  pub those-nothing : those test [] ≡ []
  unfolding those
  those-nothing = refl

  -- of a thing and some more: it passes, or it does not
  pub those-next : (k : A) (ks : List A) → test k ≡ true → those test (k ∷ ks) ≡ k ∷ those test ks
  unfolding those
  those-next k ks e = rw e

  pub those-skip : (k : A) (ks : List A) → test k ≡ false → those test (k ∷ ks) ≡ those test ks
  unfolding those
  those-skip k ks e = rw e

  pub those-few : (ks : List A) → length (those test ks) ≤ length ks
  unfolding those
  those-few [] = omega arith
  those-few (k ∷ ks) = by-test (λ t. length (cond t (k ∷ those test ks) (those test ks)) ≤ suc (length ks)) (test k) (λ _. omega (arith, those-few ks)) (λ _. omega (arith, those-few ks))

  -- all do, or none does
  pub those-all : (ks : List A) → ((k : A) → Memᴰ k ks → test k ≡ true) → those test ks ≡ ks
  unfolding those
  those-all [] h = refl
  those-all (k ∷ ks) h = rw (h k (mathlib.Core.List.Memᴰ.head refl), those-all ks (λ j m. h j (mathlib.Core.List.Memᴰ.tail m)))

  pub those-none : (ks : List A) → ((k : A) → Memᴰ k ks → test k ≡ false) → those test ks ≡ []
  unfolding those
  those-none [] h = refl
  those-none (k ∷ ks) h = rw (h k (mathlib.Core.List.Memᴰ.head refl), those-none ks (λ j m. h j (mathlib.Core.List.Memᴰ.tail m)))

  -- a thing is among them exactly where it is among all and passes
  pub those-sound : (ks : List A) (k : A) → Memᴰ k (those test ks) → Memᴰ k ks × (test k ≡ true)
  unfolding those
  those-sound [] k m = absurd (mathlib.Core.List.Memᴰ.not-nil m)
  those-sound (j ∷ ks) k m =
      by-test (λ t. test j ≡ t → Memᴰ k (cond t (j ∷ those test ks) (those test ks)) → Memᴰ k (j ∷ ks) × (test k ≡ true)) (test j)
      (λ _ e m. ⊎_elim (λ (d : k ≡ j). (mathlib.Core.List.Memᴰ.head d, ap test d ∙ e)) (λ (r : Memᴰ k (those test ks)). later (those-sound ks k r)) (mathlib.Core.List.Memᴰ.cases_cons m))
      (λ _ _ m. later (those-sound ks k m)) refl m
    where
      later : Memᴰ k ks × (test k ≡ true) → Memᴰ k (j ∷ ks) × (test k ≡ true)
      later r = (mathlib.Core.List.Memᴰ.tail r.0, r.1)

  -- where one of them stands among all: those before it and those after it passed of the things before it and after it
  pub record Stands (ks front : List A) (k : A) (back : List A) : Type 0 where
    pub before : List A
    pub after : List A
    pub split : ks ≡ before ++ k ∷ after
    pub passes : test k ≡ true
    pub earlier : those test before ≡ front
    pub later : those test after ≡ back

  head_or : A → List A → A
  head_or d [] = d
  head_or d (j ∷ js) = j

  tail_of : List A → List A
  tail_of [] = []
  tail_of (j ∷ js) = js

  stands-skip : {ks front back : List A} {k : A} (j : A) → test j ≡ false → Stands ks front k back → Stands (j ∷ ks) front k back
  stands-skip j e s =
      record {
        before = j ∷ s.before;
        after = s.after;
        split = ap (λ (l : List A). j ∷ l) s.split;
        passes = s.passes;
        earlier = those-skip j s.before e ∙ s.earlier;
        later = s.later;
      }

  pub those-stands : (ks front : List A) (k : A) (back : List A) → those test ks ≡ front ++ k ∷ back → Stands ks front k back
  unfolding head_or tail_of
  those-stands [] [] k back e = absurd (let n : 0 ≡ suc (length back) = ap length (sym those-nothing ∙ e) in omega arith)
  those-stands [] (j ∷ front) k back e = absurd (let n : 0 ≡ suc (length (front ++ k ∷ back)) = ap length (sym those-nothing ∙ e) in omega arith)
  those-stands (i ∷ ks) [] k back e =
      by-test (λ _. Stands (i ∷ ks) [] k back) (test i)
      (λ t.
      let first : i ∷ those test ks ≡ k ∷ back = sym (those-next i ks t) ∙ e in
      let is : i ≡ k = ap (head_or k) first in
      record { before = []; after = ks; split = ap (λ (x : A). x ∷ ks) is; passes = ap test (sym is) ∙ t; earlier = those-nothing; later = ap tail_of first })
      (λ t. stands-skip i t (those-stands ks [] k back (sym (those-skip i ks t) ∙ e)))
  those-stands (i ∷ ks) (j ∷ front) k back e =
      by-test (λ _. Stands (i ∷ ks) (j ∷ front) k back) (test i)
      (λ t.
      let first : i ∷ those test ks ≡ j ∷ front ++ k ∷ back = sym (those-next i ks t) ∙ e in
      let s = those-stands ks front k back (ap tail_of first) in
      record {
        before = i ∷ s.before;
        after = s.after;
        split = ap (λ (l : List A). i ∷ l) s.split;
        passes = s.passes;
        earlier = those-next i s.before t ∙ ap₂ (λ (x : A) (l : List A). x ∷ l) (ap (head_or i) first) s.earlier;
        later = s.later;
      })
      (λ t. stands-skip i t (those-stands ks (j ∷ front) k back (sym (those-skip i ks t) ∙ e)))

  pub those-complete : (ks : List A) (k : A) → Memᴰ k ks → test k ≡ true → Memᴰ k (those test ks)
  unfolding those
  those-complete [] k m e = absurd (mathlib.Core.List.Memᴰ.not-nil m)
  those-complete (j ∷ ks) k m e =
      ⊎_elim
      (λ (d : k ≡ j). let passes : test j ≡ true = ap test (sym d) ∙ e in rw passes (mathlib.Core.List.Memᴰ.head d))
      (λ (r : Memᴰ k ks).
      let on : Memᴰ k (those test ks) = those-complete ks k r e in
      by-test (λ t. Memᴰ k (cond t (j ∷ those test ks) (those test ks))) (test j) (λ _. mathlib.Core.List.Memᴰ.tail on) (λ _. on))
      (mathlib.Core.List.Memᴰ.cases_cons m)
