-- The occurrences in a text of three parts, of any lengths (`occurrences-around`): those of the first part, those of the letters around the second, and those of the third. The letters
-- around it are at most m - 1 of the first part, the second, and at most m - 1 of the third: what stands in them is what touches the second part or, where that is empty, crosses the
-- seam (`those-touching`). The pattern has at least one letter. Assumes nothing.
use mathlib.Core.Path.{◌≡◌, refl, sym, ap, subst, ◌∙◌}
use Prim.Native.Nat.{ℕ, suc, ◌+◌, ◌-◌, ◌≤◌, ◌<◌}
use native.Mathlib.Omega.{arith}
use mathlib.Core.Bool.{Bool, true, false, ◌&&◌}
use mathlib.Core.List.{List, [], ◌++◌, append-nil, append_assoc, Memᴰ}
use lib.ListN.{length, take, drop, length-append, length-take, length-drop, take-append-drop, get_or-append}
use lib.Seq.{get_or-append-add, length-take-le}
use lib.Dec.{ltb, leb}
use borrow.Author.Tests.{lt-ltb, ltb-true, leb-true, leb-false}
use Rattle.matching.specs.Occurrences.{occurs_from, occurrences}
use Rattle.matching.specs.Joined.{those, last_of, moved_up}
use Rattle.matching.proofs.CaseAnalysis.{by-test, both}
use Rattle.matching.proofs.Those.{those-append, those-all, those-none}
use Rattle.matching.proofs.Occurrences.{Stands, rest, rest-past, from-sound, occurrences-none}
use Rattle.matching.proofs.Ranges.{moved_none, rest-split, rest_all, occurrences-rest, part-occurrences}

-- a part of a text stands after what is before it
stands-between : (before W after : List ℕ) → Stands W (before ++ (W ++ after)) (length before)
stands-between before W after =
    record {
      inside = omega (arith, length-append before (W ++ after), length-append W after);
      letters = λ i h. sym (get_or-append-add before (W ++ after) i 0 ∙ get_or-append W after 0 i h);
    }

-- so its occurrences are those of the whole at the positions where the pattern fits it
between : (P T before W after : List ℕ) (a : ℕ) → 1 ≤ length P → T ≡ before ++ (W ++ after) → length before ≡ a → moved_up a (occurrences P W) ≡ occurs_from (suc (length W) - length P) P T a
between P T before W after a some is size = part-occurrences P T W a some (subst (λ (l : List ℕ). Stands W l a) (sym is) (subst (λ (n : ℕ). Stands W (before ++ (W ++ after)) n) size (stands-between before W after)))

-- whether a pattern of m letters at position k touches what stands from `start` to `end`, or crosses the seam where that is nothing: it starts before the end and ends after the start
abbrev pub touches : ℕ → ℕ → ℕ → ℕ → Bool
touches start end m k = ltb k end && ltb start (k + m)

-- what the test says
pub touches-both : (start end m k : ℕ) → touches start end m k ≡ true → (k < end) × (start < k + m)
touches-both start end m k e = let p = both (ltb k end) (ltb start (k + m)) e in (ltb-true k end p.0, ltb-true start (k + m) p.1)

pub touches-is : (start end m k : ℕ) → k < end → start < k + m → touches start end m k ≡ true
touches-is start end m k h l = rw (lt-ltb k end h, lt-ltb start (k + m) l)

touches-not : (start end m k : ℕ) → (k < end → start < k + m → ⊥) → touches start end m k ≡ false
touches-not start end m k none = by-test (λ t. t ≡ false) (touches start end m k) (λ e. let p = touches-both start end m k e in absurd (none p.0 p.1)) (λ _. refl)

module _ (P X Y Z : List ℕ) (some : 1 ≤ length P) where
  abbrev T : List ℕ
  T = X ++ Y ++ Z

  -- the letters of a side that play a part, and where they begin
  abbrev c : ℕ
  c = length P - 1

  abbrev a : ℕ
  a = length X - c

  -- the letters around the second part
  abbrev W : List ℕ
  W = last_of c X ++ Y ++ take c Z

  long : length T ≡ length X + length Y + length Z
  long = length-append (X ++ Y) Z ∙ ap (λ (n : ℕ). n + length Z) (length-append X Y)

  wide : length W ≡ (length X - a) + length Y + length (take c Z)
  wide =
      length-append (last_of c X ++ Y) (take c Z) ∙ ap (λ (n : ℕ). n + length (take c Z)) (length-append (last_of c X) Y ∙ ap (λ (n : ℕ). n + length Y) (length-drop a X))

  -- where each part stands in the text
  first_part : T ≡ [] ++ (X ++ (Y ++ Z))
  first_part = append_assoc X Y Z

  middle-part : T ≡ take a X ++ (W ++ drop c Z)
  middle-part =
      let sides : X ++ (Y ++ Z) ≡ (take a X ++ last_of c X) ++ (Y ++ (take c Z ++ drop c Z)) = rw (take-append-drop a X, take-append-drop c Z) in
      let inner : last_of c X ++ (Y ++ (take c Z ++ drop c Z)) ≡ W ++ drop c Z =
      sym (append_assoc (last_of c X ++ Y) (take c Z) (drop c Z) ∙ append_assoc (last_of c X) Y (take c Z ++ drop c Z)) in
      append_assoc X Y Z ∙ sides ∙ append_assoc (take a X) (last_of c X) (Y ++ (take c Z ++ drop c Z)) ∙ ap (λ (l : List ℕ). take a X ++ l) inner

  last-part : T ≡ (X ++ Y) ++ (Z ++ [])
  last-part = ap (λ (l : List ℕ). (X ++ Y) ++ l) (sym (append-nil Z))

  -- the three ranges of positions
  first-is : occurrences P X ≡ occurs_from a P T 0
  first-is = sym (moved_none (occurrences P X)) ∙ between P T [] X (Y ++ Z) 0 some first_part refl ∙ ap (λ (n : ℕ). occurs_from n P T 0) (omega arith)

  middle-is : moved_up a (occurrences P W) ≡ occurs_from (suc (length W) - length P) P T a
  middle-is = between P T (take a X) W (drop c Z) a some middle-part (length-take-le a X (omega arith))

  last-is : moved_up (length X + length Y) (occurrences P Z) ≡ occurs_from (suc (length Z) - length P) P T (length X + length Y)
  last-is = between P T (X ++ Y) Z [] (length X + length Y) some last-part (length-append X Y)

  -- what stands after the letters around the second part: a third part shorter than m - 1 is among them, and nothing stands after it
  after_is : rest P T (a + (suc (length W) - length P)) ≡ moved_up (length X + length Y) (occurrences P Z)
  after_is =
      by-test (λ _. rest P T (a + (suc (length W) - length P)) ≡ moved_up (length X + length Y) (occurrences P Z)) (leb c (length Z))
      (λ e.
      let side : length (take c Z) ≡ c = length-take-le c Z (leb-true c (length Z) e) in
      let seam : a + (suc (length W) - length P) ≡ length X + length Y = omega (arith, wide, side) in
      ap (rest P T) seam ∙ rest_all P T (length X + length Y) (suc (length Z) - length P) some (omega (arith, long)) (omega (arith, long)) ∙ sym last-is)
      (λ e.
      let short : length Z < c = leb-false c (length Z) e in
      rest-past P T (a + (suc (length W) - length P)) some (omega (arith, long, wide, length-take c Z)) ∙ ap (moved_up (length X + length Y)) (sym (occurrences-none P Z (omega arith))))

  -- the three kinds of positions
  abbrev first : List ℕ
  first = occurrences P X

  abbrev middle : List ℕ
  middle = moved_up a (occurrences P W)

  abbrev last : List ℕ
  last = moved_up (length X + length Y) (occurrences P Z)

  pub occurrences-around : occurrences P T ≡ first ++ middle ++ last
  occurrences-around =
      let start : 0 + a ≡ a = omega arith in
      occurrences-rest P T ∙ rest-split P T 0 a (omega (arith, long))
      ∙ ap (λ (l : List ℕ). occurs_from a P T 0 ++ l)
      (ap (rest P T) start ∙ rest-split P T a (suc (length W) - length P) (omega (arith, long, wide, length-take c Z))
      ∙ ap (λ (l : List ℕ). occurs_from (suc (length W) - length P) P T a ++ l) after_is)
      ∙ rw (first-is, middle-is) (sym (append_assoc (occurs_from a P T 0) (occurs_from (suc (length W) - length P) P T a) last))

  -- where each lies: the pattern ends in the first part, ends after it and starts before the third, or starts in the third
  before : (k : ℕ) → Memᴰ k first → k + length P ≤ length X
  before k l = omega (arith, (from-sound a P T 0 k (subst (Memᴰ k) first-is l)).1.0)

  touching : (k : ℕ) → Memᴰ k middle → (k < length X + length Y) × (length X < k + length P)
  touching k l =
      let b = from-sound (suc (length W) - length P) P T a k (subst (Memᴰ k) middle-is l) in
      (omega (arith, b.1.0, wide, length-take c Z), omega (arith, b.0))

  after : (k : ℕ) → Memᴰ k last → length X + length Y ≤ k
  after k l = (from-sound (suc (length Z) - length P) P T (length X + length Y) k (subst (Memᴰ k) last-is l)).0

  -- so a test that only one kind passes picks that one
  module _ (test : ℕ → Bool) where
    picked : those test (occurrences P T) ≡ those test first ++ those test middle ++ those test last
    picked = ap (those test) occurrences-around ∙ those-append test (first ++ middle) last ∙ ap (λ (l : List ℕ). l ++ those test last) (those-append test first middle)

    pub those-before : ((k : ℕ) → k + length P ≤ length X → test k ≡ true) → ((k : ℕ) → length X < k + length P → test k ≡ false) → those test (occurrences P T) ≡ first
    those-before passes fails =
        picked
        ∙ rw (
          those-all test first (λ k l. passes k (before k l)),
          those-none test middle (λ k l. fails k (touching k l).1),
          those-none test last (λ k l. fails k (omega (arith, after k l))),
        )
        (append-nil (first ++ []) ∙ append-nil first)

    pub those-after : ((k : ℕ) → k < length X + length Y → test k ≡ false) → ((k : ℕ) → length X + length Y ≤ k → test k ≡ true) → those test (occurrences P T) ≡ last
    those-after fails passes =
        picked
        ∙ rw (
          those-none test first (λ k l. fails k (omega (arith, before k l))),
          those-none test middle (λ k l. fails k (touching k l).0),
          those-all test last (λ k l. passes k (after k l)),
        )

  pub those-touching : those (touches (length X) (length X + length Y) (length P)) (occurrences P T) ≡ middle
  those-touching =
      let test : ℕ → Bool = touches (length X) (length X + length Y) (length P) in
      picked test
      ∙ rw (
        those-none test first (λ k l. touches-not (length X) (length X + length Y) (length P) k (λ _ e. omega (arith, before k l))),
        those-all test middle (λ k l. let b = touching k l in touches-is (length X) (length X + length Y) (length P) k b.0 b.1),
        those-none test last (λ k l. touches-not (length X) (length X + length Y) (length P) k (λ s _. omega (arith, after k l))),
      )
      (append-nil middle)
