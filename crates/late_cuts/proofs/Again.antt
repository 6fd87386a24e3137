-- The answer of a call is a list that a call on the new text takes: it strictly rises, and the phrase stays within the new text at each of its places, whatever accepted list was given
-- (`answer-accepted`). So cuts can be made one after another. And how many places there are at most (`answer-few`). Assumes nothing.
use mathlib.Core.Path.{◌≡◌, refl, ap, subst, ◌∙◌}
use Prim.Native.Nat.{ℕ, suc, ◌+◌, ◌-◌, ◌≤◌, ◌<◌}
use native.Mathlib.Omega.{arith}
use mathlib.Core.Logic.{⊎_elim}
use mathlib.Core.Bool.{Bool, true, cond, ◌&&◌}
use mathlib.Core.List.Memᴰ
use mathlib.Core.List.{List, [], ◌∷◌, ◌++◌, map, Memᴰ}
use lib.ListN.{length, take, length-append, length-map}
use lib.Dec.{leb}
use borrow.Author.Tests.{le-leb, lt-leb, leb-true}
use Rattle.matching.specs.declared.Answer.{Answer}
use Rattle.matching.specs.Occurrences.{occurrences}
use Rattle.matching.specs.Joined.{those, moved_up}
use Rattle.matching.proofs.CaseAnalysis.{by-test, both}
use Rattle.matching.proofs.Those.{those-sound}
use Rattle.matching.proofs.Received.{received-whole}
use Rattle.cuts.specs.Cuts.{Cut, new_text, rises_from, rises, all_fit}
use Rattle.cuts.proofs.Lists.{rises-lower, rises-from, rises-few, fit-member, all-fit, occurrences-rising}
use Rattle.cuts.proofs.Calls.{Taken, length-new, taken}
use Rattle.late_cuts.specs.LateCuts.{stays, moves, change, moved_by, around, fresh, relisted, Relisted}
use Rattle.late_cuts.proofs.Signed.{moved-is, moved_inside}
use Rattle.late_cuts.proofs.Calls.{relisted-none, relisted-answer, relisted-listed}
use Rattle.late_cuts.proofs.NewList.{fresh-are}

-- ---- rising places, one list behind another

rises-append : (low mid : ℕ) (ks js : List ℕ) → rises_from low ks ≡ true → low ≤ mid → ((k : ℕ) → Memᴰ k ks → k < mid) → rises_from mid js ≡ true → rises_from low (ks ++ js) ≡ true
unfolding rises_from
rises-append low mid [] js e h below f = rises-lower mid low js h f
rises-append low mid (k ∷ ks) js e h below f =
    let p = both (leb low k) (rises_from (suc k) ks) e in
    rw p.0 (rises-append (suc k) mid ks js p.1 (below k (Memᴰ.head refl)) (λ j l. below j (Memᴰ.tail l)) f)

-- those that pass a test still rise
rises-those : (test : ℕ → Bool) (low : ℕ) (ks : List ℕ) → rises_from low ks ≡ true → rises_from low (those test ks) ≡ true
unfolding rises_from those
rises-those test low [] e = refl
rises-those test low (k ∷ ks) e =
    let p = both (leb low k) (rises_from (suc k) ks) e in
    let on = rises-those test (suc k) ks p.1 in
    by-test (λ t. rises_from low (cond t (k ∷ those test ks) (those test ks)) ≡ true) (test k)
    (λ _. rw p.0 on) (λ _. rises-lower (suc k) low (those test ks) (omega (arith, leb-true low k p.0)) on)

-- moved up they rise too
rises-up : (a low : ℕ) (ks : List ℕ) → rises_from low ks ≡ true → rises_from (low + a) (moved_up a ks) ≡ true
unfolding rises_from
rises-up a low [] e = refl
rises-up a low (k ∷ ks) e =
    let p = both (leb low k) (rises_from (suc k) ks) e in
    let next : suc k + a ≡ suc (k + a) = omega arith in
    rw (le-leb (low + a) (k + a) (omega (arith, leb-true low k p.0)), ← next) (rises-up a (suc k) ks p.1)

-- what fits, one list behind another
fits-append : (m n : ℕ) (ks js : List ℕ) → all_fit m n ks ≡ true → all_fit m n js ≡ true → all_fit m n (ks ++ js) ≡ true
unfolding all_fit
fits-append m n [] js e f = f
fits-append m n (k ∷ ks) js e f = let p = both (leb (k + m) n) (all_fit m n ks) e in rw p.0 (fits-append m n ks js p.1 f)

-- ---- the three lists of an answer

module _ {P T list : List ℕ} {c : Cut} (known : Taken P T list c) where
  abbrev m : ℕ
  m = length P

  -- the first place that no longer stays, and the first after the new letters
  abbrev mid : ℕ
  mid = suc c.start - m

  abbrev end : ℕ
  end = c.start + length c.letters

  abbrev stay : List ℕ
  stay = those (stays m c.start) list

  abbrev move : List ℕ
  move = those (moves c.end) list

  stay-at : (k : ℕ) → Memᴰ k stay → k + m ≤ c.start
  stay-at k l = leb-true (k + m) c.start (those-sound (stays m c.start) list k l).1

  move_at : (k : ℕ) → Memᴰ k move → (c.end ≤ k) × (k + m ≤ length T)
  move_at k l =
      let s = those-sound (moves c.end) list k l in
      (leb-true c.end k s.1, fit-member m (length T) list known.fits k s.0)

  -- the places moved, in their order
  moved-rise : (low : ℕ) (ks : List ℕ) → c.end ≤ low → rises_from low ks ≡ true → rises_from (low + length c.letters - (c.end - c.start)) (map (moved_by (change c)) ks) ≡ true
  unfolding rises_from
  moved-rise low [] h e = refl
  moved-rise low (k ∷ ks) h e =
      let p = both (leb low k) (rises_from (suc k) ks) e in
      let above : low ≤ k = leb-true low k p.0 in
      let new : ℕ = length c.letters in
      let lost : ℕ = c.end - c.start in
      let is : moved_by (change c) k ≡ k + new - lost = moved-is T c k known.ordered (omega arith) in
      let next : suc k + new - lost ≡ suc (moved_by (change c) k) = later k new lost (moved_by (change c) k) is (omega arith) in
      rw (le-leb (low + new - lost) (moved_by (change c) k) (no_less low k new lost (moved_by (change c) k) is above), ← next) (moved-rise (suc k) ks (omega arith) p.1)
    where
      later : (k new lost x : ℕ) → x ≡ k + new - lost → lost ≤ k → suc k + new - lost ≡ suc x
      later k new lost x e h = omega arith

      no_less : (low k new lost x : ℕ) → x ≡ k + new - lost → low ≤ k → low + new - lost ≤ x
      no_less low k new lost x e h = omega arith

  moved_fit : (ks : List ℕ) → ((k : ℕ) → Memᴰ k ks → (c.end ≤ k) × (k + m ≤ length T)) → all_fit m (length (new_text T c)) (map (moved_by (change c)) ks) ≡ true
  unfolding all_fit
  moved_fit [] h = refl
  moved_fit (k ∷ ks) h =
      let here = h k (Memᴰ.head refl) in
      rw (le-leb (moved_by (change c) k + m) (length (new_text T c)) (moved_inside T c k known.ordered here.0 m here.1)) (moved_fit ks (λ j l. h j (Memᴰ.tail l)))

  -- each list rises, and lies before the next one
  stay-rises : rises_from 0 stay ≡ true
  stay-rises = rises-those (stays m c.start) 0 list known.rising

  fresh_at : (k : ℕ) → Memᴰ k (fresh P T c) → (mid ≤ k) × (k < end)
  fresh_at k l = let f = (fresh-are P T c known.some known.ordered known.inside k).0 l in (omega (arith, f.ends), f.starts)

  fresh-rises : rises_from mid (fresh P T c) ≡ true
  fresh-rises =
      rises-from (0 + (c.start - (m - 1))) mid (fresh P T c) (rises-up (c.start - (m - 1)) 0 (occurrences P (around P T c)) (occurrences-rising P (around P T c))) (λ k l. (fresh_at k l).0)

  move-rises : rises_from end (map (moved_by (change c)) move) ≡ true
  move-rises =
      let first : c.end + length c.letters - (c.end - c.start) ≡ end = omega (arith, known.ordered) in
      subst (λ (low : ℕ). rises_from low (map (moved_by (change c)) move) ≡ true) first
      (moved-rise c.end move (omega arith) (rises-from 0 c.end move (rises-those (moves c.end) 0 list known.rising) (λ k l. (move_at k l).0)))

  -- the answer
  pub answer-accepted : rises (relisted P T list c) && all_fit m (length (new_text T c)) (relisted P T list c) ≡ true
  unfolding relisted
  answer-accepted =
      let new = length-new T c (omega (arith, known.ordered, known.inside)) in
      let front : rises_from 0 (stay ++ fresh P T c) ≡ true = rises-append 0 mid stay (fresh P T c) stay-rises (omega arith) (λ k l. omega (arith, stay-at k l)) fresh-rises in
      let fits : all_fit m (length (new_text T c)) (stay ++ fresh P T c) ≡ true =
      fits-append m (length (new_text T c)) stay (fresh P T c) (all-fit m (length (new_text T c)) stay (λ k l. omega (arith, stay-at k l, new)))
      (all-fit m (length (new_text T c)) (fresh P T c) (λ k l. ((fresh-are P T c known.some known.ordered known.inside k).0 l).occurs.inside)) in
      rw (
        rises-append 0 end (stay ++ fresh P T c) (map (moved_by (change c)) move) front (omega arith) below move-rises,
        fits-append m (length (new_text T c)) (stay ++ fresh P T c) (map (moved_by (change c)) move) fits (moved_fit move move_at),
      )
    where
      below : (k : ℕ) → Memᴰ k (stay ++ fresh P T c) → k < end
      below k l = ⊎_elim (λ (s : Memᴰ k stay). omega (arith, stay-at k s, known.some)) (λ (f : Memᴰ k (fresh P T c)). (fresh_at k f).1) (Memᴰ.append_cases stay l)

  -- no place both stays and moves
  apart : (ks : List ℕ) → length (those (stays m c.start) ks) + length (those (moves c.end) ks) ≤ length ks
  unfolding those
  apart [] = omega arith
  apart (k ∷ ks) =
      by-test
      (λ t. length (cond t (k ∷ those (stays m c.start) ks) (those (stays m c.start) ks)) + length (those (moves c.end) (k ∷ ks)) ≤ suc (length ks)) (leb (k + m) c.start)
      (λ t. rw (lt-leb c.end k (omega (arith, leb-true (k + m) c.start t, known.some, known.ordered))) (omega (arith, apart ks)))
      (λ _.
      by-test (λ t. length (those (stays m c.start) ks) + length (cond t (k ∷ those (moves c.end) ks) (those (moves c.end) ks)) ≤ suc (length ks)) (leb c.end k)
      (λ _. omega (arith, apart ks)) (λ _. omega (arith, apart ks)))

  -- the fresh places start in the new letters, or less than m before them
  pub answer-few : length (relisted P T list c) ≤ length list + (m - 1) + length c.letters
  unfolding relisted
  answer-few =
      let moved = map (moved_by (change c)) move in
      let new : length (fresh P T c) + mid ≤ end = rises-few mid end (fresh P T c) fresh-rises (omega arith) (λ k l. (fresh_at k l).1) in
      omega (arith, apart list, length-append (stay ++ fresh P T c) moved, length-append stay (fresh P T c), length-map move (moved_by (change c)), new)

-- ---- a call, and one on what it left

-- the places that a call left, where its answer is long enough for its total, are a list that a call on the new text does not refuse
pub answer-again : {P T list : List ℕ} {c : Cut} {lent : List ℕ} {r : Answer} {lent' : List ℕ} → Relisted P T list c lent r lent' → r.refusal ≡ 0 → r.number ≤ length lent
    → rises (take r.number lent') && all_fit (length P) (length (new_text T c)) (take r.number lent') ≡ true
answer-again {P} {T} {list} {c} {lent} {r} {lent'} made z room =
    let none = relisted-none made z in
    let total : r.number ≡ length (relisted P T list c) = ap (λ (a : Answer). a.number) (relisted-answer made none) in
    let left : take r.number lent' ≡ relisted P T list c = rw (total, relisted-listed made none) (received-whole lent (relisted P T list c) (omega arith)) in
    ap (λ (l : List ℕ). rises l && all_fit (length P) (length (new_text T c)) l) left ∙ answer-accepted (taken P T list c refl none)
