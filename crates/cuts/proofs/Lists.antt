-- The list that a call is given: place by place, and as a whole. The old text's own list is accepted (`old-list-accepted`). Assumes nothing.
use mathlib.Core.Path.{◌≡◌, refl, ◌∙◌}
use Prim.Native.Nat.{ℕ, zero, suc, ◌+◌, ◌≤◌, ◌<◌}
use native.Mathlib.Omega.{arith}
use native.Mathlib.Numerals.{add-one}
use mathlib.Core.Bool.{Bool, true, false, cond, ◌&&◌}
use mathlib.Core.Logic.{⊎_elim}
use mathlib.Core.List.Memᴰ
use mathlib.Core.List.{List, [], ◌∷◌, Memᴰ}
use lib.ListN.{length, get_or, drop, drop_of_length-le}
use lib.Seq.{drop-cons}
use lib.Dec.{leb}
use borrow.Author.Tests.{le-leb, lt-leb, leb-true}
use Rattle.matching.specs.Occurrences.{occurs_at, occurs_from, occurrences}
use Rattle.matching.proofs.CaseAnalysis.{by-test, both}
use Rattle.matching.proofs.Occurrences.{occurrences-are}
use Rattle.cuts.specs.Cuts.{rises_from, rises, all_fit}

-- the rest of a list begins with the next place
pub next_place : (ks : List ℕ) (i : ℕ) → i < length ks → drop i ks ≡ get_or ks i 0 ∷ drop (i + 1) ks
next_place ks i h = drop-cons ks i 0 h ∙ rw (add-one i)

-- ---- whether a list is accepted, place by place

-- what is asked of the places from one on, the next being at least `low`
abbrev pub accepted_from : ℕ → ℕ → ℕ → List ℕ → Bool
accepted_from m n low ks = rises_from low ks && all_fit m n ks

module _ (m n low : ℕ) (ks : List ℕ) (i : ℕ) where
  -- after the last place
  pub accepted_over : length ks ≤ i → accepted_from m n low (drop i ks) ≡ true
  unfolding rises_from all_fit
  accepted_over h = rw (drop_of_length-le ks h)

  -- a place that does not rise, one at which the phrase does not fit, and any other
  module _ (h : i < length ks) where
    pub accepted_falls : get_or ks i 0 < low → accepted_from m n low (drop i ks) ≡ false
    unfolding rises_from
    accepted_falls l = rw (next_place ks i h, lt-leb low (get_or ks i 0) l)

    pub accepted_passes : n < get_or ks i 0 + m → accepted_from m n low (drop i ks) ≡ false
    unfolding all_fit
    accepted_passes l =
        rw (next_place ks i h, lt-leb (get_or ks i 0 + m) n l)
        (by-test (λ t. t && false ≡ false) (rises_from low (get_or ks i 0 ∷ drop (i + 1) ks)) (λ _. refl) (λ _. refl))

    pub accepted_next : low ≤ get_or ks i 0 → get_or ks i 0 + m ≤ n → accepted_from m n low (drop i ks) ≡ accepted_from m n (get_or ks i 0 + 1) (drop (i + 1) ks)
    unfolding rises_from all_fit
    accepted_next l f = rw (next_place ks i h, le-leb low (get_or ks i 0) l, le-leb (get_or ks i 0 + m) n f, add-one (get_or ks i 0))

-- by these `accepted` goes through a list
pub ruleset place_by_place = (accepted_over, accepted_falls, accepted_passes, accepted_next)

-- the phrase fits the text at each place, and back
pub fit-member : (m n : ℕ) (ks : List ℕ) → all_fit m n ks ≡ true → (k : ℕ) → Memᴰ k ks → k + m ≤ n
unfolding all_fit
fit-member m n [] e k l = absurd (Memᴰ.not-nil l)
fit-member m n (j ∷ ks) e k l =
    let p = both (leb (j + m) n) (all_fit m n ks) e in
    ⊎_elim (λ (d : k ≡ j). omega (arith, leb-true (j + m) n p.0)) (λ (r : Memᴰ k ks). fit-member m n ks p.1 k r) (Memᴰ.cases_cons l)

pub all-fit : (m n : ℕ) (ks : List ℕ) → ((k : ℕ) → Memᴰ k ks → k + m ≤ n) → all_fit m n ks ≡ true
unfolding all_fit
all-fit m n [] h = refl
all-fit m n (k ∷ ks) h = rw (le-leb (k + m) n (h k (Memᴰ.head refl))) (all-fit m n ks (λ j l. h j (Memᴰ.tail l)))

-- ---- rising places

-- what rises from a number on rises from a smaller one on
pub rises-lower : (low low' : ℕ) (ks : List ℕ) → low' ≤ low → rises_from low ks ≡ true → rises_from low' ks ≡ true
unfolding rises_from
rises-lower low low' [] h e = refl
rises-lower low low' (k ∷ ks) h e =
    let p = both (leb low k) (rises_from (suc k) ks) e in
    rw (le-leb low' k (omega (arith, leb-true low k p.0))) p.1

-- and from any number on that no place is below
pub rises-from : (low low' : ℕ) (ks : List ℕ) → rises_from low ks ≡ true → ((k : ℕ) → Memᴰ k ks → low' ≤ k) → rises_from low' ks ≡ true
unfolding rises_from
rises-from low low' [] e h = refl
rises-from low low' (k ∷ ks) e h = rw (le-leb low' k (h k (Memᴰ.head refl))) (both (leb low k) (rises_from (suc k) ks) e).1

-- rising places below a number are no more than the numbers below it
pub rises-few : (low high : ℕ) (ks : List ℕ) → rises_from low ks ≡ true → low ≤ high → ((k : ℕ) → Memᴰ k ks → k < high) → length ks + low ≤ high
unfolding rises_from
rises-few low high [] e h below = omega arith
rises-few low high (k ∷ ks) e h below =
    let p = both (leb low k) (rises_from (suc k) ks) e in
    omega (arith, rises-few (suc k) high ks p.1 (below k (Memᴰ.head refl)) (λ j l. below j (Memᴰ.tail l)), leb-true low k p.0)

pub rises_next : (k : ℕ) (ks : List ℕ) → rises (k ∷ ks) ≡ true → rises ks ≡ true
unfolding rises_from
rises_next k ks e = rises-lower (suc k) 0 ks (omega arith) (both (leb 0 k) (rises_from (suc k) ks) e).1

-- ---- the old text's list is accepted

from-rising : (n : ℕ) (P T : List ℕ) (k : ℕ) → rises_from k (occurs_from n P T k) ≡ true
unfolding rises_from occurs_from
from-rising zero P T k = refl
from-rising (suc n) P T k =
    by-test (λ t. rises_from k (cond t (k ∷ occurs_from n P T (suc k)) (occurs_from n P T (suc k))) ≡ true) (occurs_at P T k)
    (λ _. rw (le-leb k k (omega arith)) (from-rising n P T (suc k)))
    (λ _. rises-lower (suc k) k (occurs_from n P T (suc k)) (omega arith) (from-rising n P T (suc k)))

pub occurrences-rising : (P T : List ℕ) → rises (occurrences P T) ≡ true
unfolding occurrences
occurrences-rising P T = from-rising (suc (length T)) P T 0

pub old-list-accepted : (P T : List ℕ) → rises (occurrences P T) && all_fit (length P) (length T) (occurrences P T) ≡ true
old-list-accepted P T = rw (occurrences-rising P T) (all-fit (length P) (length T) (occurrences P T) (λ k l. ((occurrences-are P T k).0 l).inside))
