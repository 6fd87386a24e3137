-- The places of a list that stay or move, and what the answer has received so far. Assumes nothing.
use mathlib.Core.Path.{◌≡◌, refl, sym, ap, ◌∙◌}
use Prim.Native.Nat.{ℕ, zero, suc, ◌+◌, ◌≤◌, ◌<◌, min}
use native.Mathlib.Omega.{arith}
use native.Mathlib.Numerals.{add-one}
use mathlib.Core.Bool.{Bool, true}
use mathlib.Core.List.{List, [], ◌∷◌, ◌++◌, map}
use lib.ListN.{length, get_or, set, take, drop, drop_of_length-le, length-append}
use lib.Seq.{take_all}
use lib.IntN.{pos, ◌-ℤ◌, ℤ}
use lib.Dec.{leb}
use borrow.Author.Tests.{le-leb, lt-leb, leb-true, leb-false}
use Rattle.matching.specs.Received.{received, received_from}
use Rattle.matching.specs.Joined.{those, moved_up}
use Rattle.matching.proofs.CaseAnalysis.{by-test, both}
use Rattle.matching.proofs.Those.{those-nothing}
use Rattle.matching.proofs.Received.{received-cons, received-full, received-over, received-one, received-on}
use Rattle.cuts.specs.Cuts.{rises_from, rises}
use Rattle.cuts.proofs.Lists.{next_place, rises_next}
use Rattle.late_cuts.specs.declared.Listing.{Listing}
use Rattle.late_cuts.specs.LateCuts.{stays, moves, moved_by}
use Rattle.late_cuts.specs.Asked.{Puts}
use Rattle.late_cuts.proofs.Entries as entries

-- ---- those that stay, and those that move

-- where one does not stay, none after it does
none_stays : (m start low : ℕ) (ks : List ℕ) → start < low + m → rises_from low ks ≡ true → those (stays m start) ks ≡ []
unfolding rises_from those
none_stays m start low [] h e = refl
none_stays m start low (k ∷ ks) h e =
    let p = both (leb low k) (rises_from (suc k) ks) e in
    let l : low ≤ k = leb-true low k p.0 in
    rw (lt-leb (k + m) start (omega arith)) (none_stays m start (suc k) ks (omega arith) p.1)

pub stays-ended : (m start k : ℕ) (ks : List ℕ) → start < k + m → rises (k ∷ ks) ≡ true → those (stays m start) (k ∷ ks) ≡ []
unfolding rises_from those
stays-ended m start k ks h e = rw (lt-leb (k + m) start h) (none_stays m start (suc k) ks (omega arith) (both (leb 0 k) (rises_from (suc k) ks) e).1)

-- one that stays comes first
pub stays-first : (m start k : ℕ) (ks : List ℕ) → k + m ≤ start → those (stays m start) (k ∷ ks) ≡ k ∷ those (stays m start) ks
unfolding those
stays-first m start k ks h = rw (le-leb (k + m) start h)

-- one that moves comes first, and one that does not is passed over
pub moves-first : (end k : ℕ) (ks : List ℕ) → end ≤ k → those (moves end) (k ∷ ks) ≡ k ∷ those (moves end) ks
unfolding those
moves-first end k ks h = rw (le-leb end k h)

pub moves_not : (end k : ℕ) (ks : List ℕ) → k < end → those (moves end) (k ∷ ks) ≡ those (moves end) ks
unfolding those
moves_not end k ks h = rw (lt-leb end k h)

-- the same of a list from its place i on
pub those_over : (test : ℕ → Bool) (ks : List ℕ) (i : ℕ) → length ks ≤ i → those test (drop i ks) ≡ []
those_over test ks i h = ap (those test) (drop_of_length-le ks h) ∙ those-nothing test

module _ (ks : List ℕ) (i : ℕ) (h : i < length ks) where
  pub stay_at : (m start : ℕ) → get_or ks i 0 + m ≤ start → those (stays m start) (drop i ks) ≡ get_or ks i 0 ∷ those (stays m start) (drop (i + 1) ks)
  stay_at m start stay = rw (next_place ks i h) (stays-first m start (get_or ks i 0) (drop (i + 1) ks) stay)

  pub stay_ended : (m start : ℕ) → start < get_or ks i 0 + m → rises (drop i ks) ≡ true → those (stays m start) (drop i ks) ≡ []
  stay_ended m start not rising = rw (next_place ks i h) (stays-ended m start (get_or ks i 0) (drop (i + 1) ks) not (rw (next_place ks i h) at rising))

  pub rises_on : rises (drop i ks) ≡ true → rises (drop (i + 1) ks) ≡ true
  rises_on rising = rises_next (get_or ks i 0) (drop (i + 1) ks) (rw (next_place ks i h) at rising)

  pub move_at : (end : ℕ) → end ≤ get_or ks i 0 → those (moves end) (drop i ks) ≡ get_or ks i 0 ∷ those (moves end) (drop (i + 1) ks)
  move_at end move = rw (next_place ks i h) (moves-first end (get_or ks i 0) (drop (i + 1) ks) move)

  pub move_not : (end : ℕ) → get_or ks i 0 < end → those (moves end) (drop i ks) ≡ those (moves end) (drop (i + 1) ks)
  move_not end not = rw (next_place ks i h) (moves_not end (get_or ks i 0) (drop (i + 1) ks) not)

-- no place that stays moves, so those that move are among the places after those that stay
pub moves-later : (m start end : ℕ) (ks : List ℕ) → 1 ≤ m → start ≤ end → rises ks ≡ true → those (moves end) (drop (length (those (stays m start) ks)) ks) ≡ those (moves end) ks
moves-later m start end [] some ordered e = ap (λ (l : List ℕ). those (moves end) (drop (length l) [])) (those-nothing (stays m start))
moves-later m start end (k ∷ ks) some ordered e =
    by-test (λ _. those (moves end) (drop (length (those (stays m start) (k ∷ ks))) (k ∷ ks)) ≡ those (moves end) (k ∷ ks)) (leb (k + m) start)
    (λ t.
    let h : k + m ≤ start = leb-true (k + m) start t in
    ap (λ (l : List ℕ). those (moves end) (drop (length l) (k ∷ ks))) (stays-first m start k ks h) ∙ moves-later m start end ks some ordered (rises_next k ks e)
    ∙ sym (moves_not end k ks (omega arith)))
    (λ t. ap (λ (l : List ℕ). those (moves end) (drop (length l) (k ∷ ks))) (stays-ended m start k ks (leb-false (k + m) start t) e))

-- those that move, moved
abbrev pub moved : ℕ → ℕ → ℕ → List ℕ → List ℕ
moved gained lost end ks = map (moved_by (pos gained -ℤ pos lost)) (those (moves end) ks)

module _ (gained lost end : ℕ) (ks : List ℕ) (i : ℕ) where
  moved_over : length ks ≤ i → moved gained lost end (drop i ks) ≡ []
  moved_over h = rw (those_over (moves end) ks i h)

  moved_at : i < length ks → end ≤ get_or ks i 0 → moved gained lost end (drop i ks) ≡ moved_by (pos gained -ℤ pos lost) (get_or ks i 0) ∷ moved gained lost end (drop (i + 1) ks)
  moved_at h move = rw (move_at ks i h end move) refl

  moved_not : i < length ks → get_or ks i 0 < end → moved gained lost end (drop i ks) ≡ moved gained lost end (drop (i + 1) ks)
  moved_not h not = rw (move_not ks i h end not)

-- ---- what was put into the answer, and what is left to be put

-- one place
pub received_at : (at : ℕ) (list : List ℕ) (k : ℕ) → set list at k ≡ received_from at list (k ∷ [])
received_at at list k = sym (received-one at list k [] ∙ received-over (suc at) (set list at k))

-- places after places
pub puts_then : {a b c : Listing} {ks js : List ℕ} → Puts a ks b → Puts b js c → Puts a (ks ++ js) c
puts_then {a} {b} {c} {ks} {js} p q =
    record {
      same = q.same ∙ p.same;
      list = q.list ∙ ap (λ (l : List ℕ). received_from b.total l js) p.list ∙ received-on a.total b.total a.list.now ks js p.total;
      total = omega (arith, p.total, q.total, length-append ks js);
    }

-- a list gone through up to its place i, of which a part is put: the part of what is left, put behind what is there, makes the answer what it is to be
pub record Putting (part : List ℕ → List ℕ) (old : Listing) (ks : List ℕ) (now : Listing) (i : ℕ) : Type 0 where
  pub same : now.list.ghost_name ≡ old.list.ghost_name
  pub list : received_from now.total now.list.now (part (drop i ks)) ≡ received_from old.total old.list.now (part ks)
  pub total : now.total + length (part (drop i ks)) ≡ old.total + length (part ks)
  pub few : now.total ≤ old.total + i

pub put_none : (part : List ℕ → List ℕ) (old : Listing) (ks : List ℕ) → Putting part old ks old 0
put_none part old ks = record { same = refl; list = refl; total = refl; few = omega arith }

module _ {part : List ℕ → List ℕ} {old now : Listing} {ks : List ℕ} {i : ℕ} (p : Putting part old ks now i) where
  -- a place is put, or passed over
  pub put_one : {k : ℕ} {next : Listing} → part (drop i ks) ≡ k ∷ part (drop (i + 1) ks) → Puts now (k ∷ []) next → Putting part old ks next (i + 1)
  put_one {k} {next} first q =
      let left = part (drop (i + 1) ks) in
      record {
        same = q.same ∙ p.same;
        list =
            ap (λ (l : List ℕ). received_from next.total l left) q.list ∙ received-on now.total next.total now.list.now (k ∷ []) left q.total
            ∙ ap (received_from now.total now.list.now) (sym first) ∙ p.list;
        total = omega (arith, p.total, q.total, ap length first);
        few = omega (arith, p.few, q.total);
      }

  pub put_not : part (drop i ks) ≡ part (drop (i + 1) ks) → Putting part old ks now (i + 1)
  put_not skip =
      record {
        same = p.same;
        list = ap (received_from now.total now.list.now) (sym skip) ∙ p.list;
        total = omega (arith, p.total, ap length skip);
        few = omega (arith, p.few);
      }

  -- nothing is left
  pub put_over : part (drop i ks) ≡ [] → Puts old (part ks) now
  put_over none =
      record {
        same = p.same;
        list = sym (ap (received_from now.total now.list.now) none ∙ received-over now.total now.list.now) ∙ p.list;
        total = omega (arith, p.total, ap length none);
      }

-- a place of those that move, moved where it does
module _ (gained lost end : ℕ) {old now : Listing} {ks : List ℕ} {i : ℕ} (p : Putting (moved gained lost end) old ks now i) where
  pub move_on : {next : Listing} {by : ℤ} → i < length ks → by ≡ pos gained -ℤ pos lost → (end ≤ get_or ks i 0 → Puts now (moved_by by (get_or ks i 0) ∷ []) next) → (get_or ks i 0 < end → next ≡ now)
      → Putting (moved gained lost end) old ks next (i + 1)
  move_on {next} h is puts not =
      by-test (λ _. Putting (moved gained lost end) old ks next (i + 1)) (leb end (get_or ks i 0))
      (λ t. let k = leb-true end (get_or ks i 0) t in put_one p (moved_at gained lost end ks i h k) (rw is at (puts k)))
      (λ t.
      let k = leb-false end (get_or ks i 0) t in
      rw (not k) (put_not p (moved_not gained lost end ks i h k)))

  pub move_over : length ks ≤ i → Puts old (moved gained lost end ks) now
  move_over h = put_over p (moved_over gained lost end ks i h)

-- ---- a number added to each of the first entries

-- the first i entries are changed, and the others are as they were
pub record Added (number : ℕ) (old now : List ℕ) (i : ℕ) : Type 0 where
  pub is : now ≡ moved_up number (take i old) ++ drop i old

pub added_none : (number : ℕ) (old : List ℕ) → Added number old old 0
added_none number old = record { is = refl }

pub added_next : {number : ℕ} {old now : List ℕ} {i : ℕ} → Added number old now i → i < length old → get_or now i 0 ≡ get_or old i 0
added_next {number} {old} {i = i} a h = rw a.is (entries.added_next number old i h)

pub added_more : {number : ℕ} {old now : List ℕ} {i : ℕ} → Added number old now i → i < length old → Added number old (set now i (get_or now i 0 + number)) (i + 1)
added_more {number} {old} {now} {i} a h =
    record { is = rw (added_next a h, add-one i) (ap (λ (l : List ℕ). set l i (get_or old i 0 + number)) a.is ∙ entries.added_more number old i h) }

-- where the list has fewer entries, to all
pub added_all : {number : ℕ} {old now : List ℕ} {i : ℕ} (count : ℕ) → Added number old now i → i ≡ min count (length old) → now ≡ moved_up number (take count old) ++ drop count old
added_all {number} {old} {now} {i} count a e =
    by-test (λ _. now ≡ moved_up number (take count old) ++ drop count old) (leb count (length old))
    (λ t. let h : count ≤ length old = leb-true count (length old) t in let same : i ≡ count = omega arith in rw (← same) a.is)
    (λ t.
    let h : length old < count = leb-false count (length old) t in
    let enough : length old ≤ i = omega arith in
    a.is ∙ rw (take_all i old enough, take_all count old (omega arith), drop_of_length-le old enough, drop_of_length-le old {i = count} (omega arith)))

-- to all that a list has received: it has received them with the number added
pub received-added : (number : ℕ) (list values : List ℕ)
    → moved_up number (take (length values) (received list values)) ++ drop (length values) (received list values) ≡ received list (moved_up number values)
received-added number [] values =
    ap (λ (l : List ℕ). moved_up number (take (length values) l) ++ drop (length values) l) (received-full values) ∙ nothing (length values) ∙ sym (received-full (moved_up number values))
  where
    nothing : (i : ℕ) → moved_up number (take i []) ++ drop i [] ≡ []
    nothing zero = refl
    nothing (suc i) = refl
received-added number (y ∷ list) [] = refl
received-added number (y ∷ list) (x ∷ values) =
    ap (λ (l : List ℕ). moved_up number (take (suc (length values)) l) ++ drop (suc (length values)) l) (received-cons y x list values)
    ∙ ap (λ (l : List ℕ). (x + number) ∷ l) (received-added number list values) ∙ sym (received-cons y (x + number) list (moved_up number values))

-- what a list has received is no larger than what it received
pub received-most : (most : ℕ) (list values : List ℕ) → ((i : ℕ) → i < length values → get_or values i 0 ≤ most) → (i : ℕ) → i < length values → get_or (received list values) i 0 ≤ most
received-most most [] values small i h = let none : received [] values ≡ [] = received-full values in rw none (nothing i)
  where
    nothing : (i : ℕ) → get_or [] i 0 ≤ most
    nothing zero = omega arith
    nothing (suc i) = omega arith
received-most most (y ∷ list) [] small i h = absurd (omega arith)
received-most most (y ∷ list) (x ∷ values) small zero h = rw (received-cons y x list values) (small 0 (omega arith))
received-most most (y ∷ list) (x ∷ values) small (suc i) h = rw (received-cons y x list values) (received-most most list values (λ j l. small (suc j) (omega arith)) i (omega arith))

-- by these `put_staying` goes through a list, and `add_to_each` through its entries
pub ruleset place_by_place = (put_none, put_one, put_over, those_over, stay_at, stay_ended, rises_on)

pub ruleset entry_by_entry = (added_none, added_next, added_more, added_all)
