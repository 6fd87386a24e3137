-- Laws of comparing letters: first to last (`reach`), last to first (`equal_down`), and the looks that either costs. Assumes nothing.
use mathlib.Core.Path.{◌≡◌, refl, sym, ap, ◌∙◌}
use Prim.Native.Nat.{ℕ, zero, suc, ◌+◌, ◌-◌, ◌≤◌, ◌<◌, min}
use native.Mathlib.Omega.{arith}
use mathlib.Core.Bool.{false, cond}
use mathlib.Core.List.{List, [], ◌∷◌}
use lib.ListN.{length, get_or, take, drop, length-drop, drop_of_length-le}
use lib.Seq.{drop-cons, get_or-drop}
use lib.Dec.{eqb, ltb}
use Rattle.std.proofs.Common.{add-one}
use borrow.Author.Tests.{eqb-true, eqb-false, eq-eqb, ne_eqb, le-leb, lt-leb, ltb-true, ltb-false, lt-ltb, le-ltb}
use Rattle.matching.specs.Occurrences.{occurs_at}
use Rattle.matching.specs.Letters.{equal_pairs, equal_on, reach, equal_down, compared_down, looks}
use Rattle.matching.proofs.CaseAnalysis.{by-test, at_same}
use Rattle.matching.proofs.Occurrences.{stands, occurs}

-- ---- pairs at the front of two lists

pub pairs-le : (xs ys : List ℕ) → equal_pairs xs ys ≤ length xs
unfolding equal_pairs
pairs-le [] ys = omega arith
pairs-le (x ∷ xs) [] = omega arith
pairs-le (x ∷ xs) (y ∷ ys) = by-test (λ t. cond t (suc (equal_pairs xs ys)) 0 ≤ suc (length xs)) (eqb x y) (λ _. omega (arith, pairs-le xs ys)) (λ _. omega arith)

pairs-le_second : (xs ys : List ℕ) → equal_pairs xs ys ≤ length ys
unfolding equal_pairs
pairs-le_second [] ys = omega arith
pairs-le_second (x ∷ xs) [] = omega arith
pairs-le_second (x ∷ xs) (y ∷ ys) = by-test (λ t. cond t (suc (equal_pairs xs ys)) 0 ≤ suc (length ys)) (eqb x y) (λ _. omega (arith, pairs-le_second xs ys)) (λ _. omega arith)

pairs-meet : (xs ys : List ℕ) (i : ℕ) → i < equal_pairs xs ys → get_or xs i 0 ≡ get_or ys i 0
unfolding equal_pairs
pairs-meet [] ys i h = absurd (omega arith)
pairs-meet (x ∷ xs) [] i h = absurd (omega arith)
pairs-meet (x ∷ xs) (y ∷ ys) zero h = by-test (λ t. 0 < cond t (suc (equal_pairs xs ys)) 0 → x ≡ y) (eqb x y) (λ e _. eqb-true x y e) (λ e k. absurd (omega arith)) h
pairs-meet (x ∷ xs) (y ∷ ys) (suc i) h =
    by-test (λ t. suc i < cond t (suc (equal_pairs xs ys)) 0 → get_or xs i 0 ≡ get_or ys i 0) (eqb x y)
    (λ e k. pairs-meet xs ys i (omega arith)) (λ e k. absurd (omega arith)) h

pairs-differ : (xs ys : List ℕ) → equal_pairs xs ys < length xs → equal_pairs xs ys < length ys → get_or xs (equal_pairs xs ys) 0 ≡ get_or ys (equal_pairs xs ys) 0 → ⊥
unfolding equal_pairs
pairs-differ [] ys h k e = omega arith
pairs-differ (x ∷ xs) [] h k e = omega arith
pairs-differ (x ∷ xs) (y ∷ ys) h k e =
    by-test
    (λ t. cond t (suc (equal_pairs xs ys)) 0 < suc (length xs) → cond t (suc (equal_pairs xs ys)) 0 < suc (length ys)
    → get_or (x ∷ xs) (cond t (suc (equal_pairs xs ys)) 0) 0 ≡ get_or (y ∷ ys) (cond t (suc (equal_pairs xs ys)) 0) 0 → ⊥)
    (eqb x y)
    (λ _ h k e. pairs-differ xs ys (omega arith) (omega arith) e)
    (λ q h k e. eqb-false x y q e) h k e

-- letter by letter from the front: k of them are equal, and those from there on
pub pairs-next : (xs ys : List ℕ) (k : ℕ) → k < length xs → k < length ys → get_or xs k 0 ≡ get_or ys k 0 → equal_pairs (drop k xs) (drop k ys) ≡ suc (equal_pairs (drop (k + 1) xs) (drop (k + 1) ys))
unfolding equal_pairs
pairs-next xs ys k h l e = rw (add-one k, drop-cons xs k 0, drop-cons ys k 0, eq-eqb (get_or xs k 0) (get_or ys k 0) e)

pub pairs-end : (xs ys : List ℕ) (k : ℕ) → k < length xs → k < length ys → (get_or xs k 0 ≡ get_or ys k 0 → ⊥) → equal_pairs (drop k xs) (drop k ys) ≡ 0
unfolding equal_pairs
pairs-end xs ys k h l n = rw (drop-cons xs k 0, drop-cons ys k 0, ne_eqb (get_or xs k 0) (get_or ys k 0) n)

-- and at the end of either none
pub pairs-over : (xs ys : List ℕ) (k : ℕ) → min (length xs) (length ys) ≤ k → equal_pairs (drop k xs) (drop k ys) ≡ 0
pairs-over xs ys k h = omega (arith, pairs-le (drop k xs) (drop k ys), pairs-le_second (drop k xs) (drop k ys), length-drop k xs, length-drop k ys)

-- of the first k letters of one list: as many, and at most k
pub pairs-take : (k : ℕ) (xs ys : List ℕ) → equal_pairs (take k xs) ys ≡ min k (equal_pairs xs ys)
unfolding equal_pairs
pairs-take zero xs ys = omega arith
pairs-take (suc k) [] ys = omega arith
pairs-take (suc k) (x ∷ xs) [] = omega arith
pairs-take (suc k) (x ∷ xs) (y ∷ ys) =
    by-test (λ t. cond t (suc (equal_pairs (take k xs) ys)) 0 ≡ min (suc k) (cond t (suc (equal_pairs xs ys)) 0)) (eqb x y) (λ _. omega (arith, pairs-take k xs ys)) (λ _. omega arith)

-- and of the first k letters of the other
pairs-take_second : (k : ℕ) (xs ys : List ℕ) → equal_pairs xs (take k ys) ≡ min k (equal_pairs xs ys)
unfolding equal_pairs
pairs-take_second zero [] ys = omega arith
pairs-take_second zero (x ∷ xs) ys = omega arith
pairs-take_second (suc k) [] ys = omega arith
pairs-take_second (suc k) (x ∷ xs) [] = omega arith
pairs-take_second (suc k) (x ∷ xs) (y ∷ ys) =
    by-test (λ t. cond t (suc (equal_pairs xs (take k ys))) 0 ≡ min (suc k) (cond t (suc (equal_pairs xs ys)) 0)) (eqb x y) (λ _. omega (arith, pairs-take_second k xs ys)) (λ _. omega arith)

-- ---- first to last

-- what `compare_up` finds in the parts of P from letter q + 1 to letter `until`, and of T from s + q on, as long at least
pub reach-until : (P T : List ℕ) (s q until : ℕ) {k j : ℕ} → q ≤ until → until - q ≤ j → k ≡ equal_pairs (take (until - q) (drop q P)) (take j (drop (s + q) T)) → q + k ≡ min until (reach P T s q)
unfolding equal_on
reach-until P T s q until {k} {j} from long is =
    let rest : List ℕ = drop (s + q) T in
    let first : equal_pairs (take (until - q) (drop q P)) (take j rest) ≡ min (until - q) (equal_pairs (drop q P) (take j rest)) = pairs-take (until - q) (drop q P) (take j rest) in
    omega (arith, is, first, pairs-take_second j (drop q P) rest)

-- the first r letters of P stand at s
unfoldable pub Meets : List ℕ → List ℕ → ℕ → ℕ → Type 0
Meets P T s r = (i : ℕ) → i < r → get_or P i 0 ≡ get_or T (s + i) 0

pub meets-none : (P T : List ℕ) (s : ℕ) → Meets P T s 0
unfolding Meets
meets-none P T s i h = absurd (omega arith)

pub reach-le : (P T : List ℕ) (s q : ℕ) → q ≤ length P → reach P T s q ≤ length P
unfolding equal_on
reach-le P T s q h = omega (arith, pairs-le (drop q P) (drop (s + q) T), length-drop q P)

-- the letters reached are equal
-- the same up to the pattern's end
pub reach-compared : (P T : List ℕ) (s q : ℕ) {k j : ℕ} → q ≤ length P → length P - q ≤ j → k ≡ equal_pairs (take (length P - q) (drop q P)) (take j (drop (s + q) T)) → q + k ≡ reach P T s q
reach-compared P T s q from long is = omega (arith, reach-until P T s q (length P) from long is, reach-le P T s q from)

pub reach-meets : (P T : List ℕ) (s q : ℕ) → Meets P T s q → Meets P T s (reach P T s q)
unfolding Meets equal_on
reach-meets P T s q m i h =
    by-test (λ _. get_or P i 0 ≡ get_or T (s + i) 0) (ltb i q)
    (λ e. m i (ltb-true i q e))
    (λ e.
    let k : q ≤ i = ltb-false i q e in
    at_same P {i = i} {j = q + (i - q)} (omega arith)
    ∙ simp get_or-drop at (pairs-meet (drop q P) (drop (s + q) T) (i - q) (omega arith))
    ∙ at_same T (omega arith))

-- and the one after them is not
pub reach-differs : (P T : List ℕ) (s q : ℕ) → s + length P ≤ length T → reach P T s q < length P → get_or P (reach P T s q) 0 ≡ get_or T (s + reach P T s q) 0 → ⊥
unfolding equal_on
reach-differs P T s q h k e = pairs-differ (drop q P) (drop (s + q) T) (omega (arith, length-drop q P)) (omega (arith, length-drop (s + q) T)) (simp get_or-drop (e ∙ at_same T (omega arith)))

-- so it is the k letters that are equal, where the one after them is not, from any letter on up to there
pub reach-is : (P T : List ℕ) (s q k : ℕ) → s + length P ≤ length T → Meets P T s k → q ≤ k → k < length P → (get_or P k 0 ≡ get_or T (s + k) 0 → ⊥) → reach P T s q ≡ k
unfolding Meets
reach-is P T s q k inside meets h l differs =
    let r : ℕ = reach P T s q in
    by-test (λ _. r ≡ k) (ltb r k)
    (λ e. absurd (reach-differs P T s q inside (omega (arith, ltb-true r k e)) (meets r (ltb-true r k e))))
    (λ e.
    by-test (λ _. r ≡ k) (ltb k r)
    (λ f. absurd (differs (reach-meets P T s q (λ i j. meets i (omega arith)) k (ltb-true k r f))))
    (λ f. omega (arith, ltb-false r k e, ltb-false k r f)))

-- one pair at a time: it is equal, it is not, and there is none, for want of a letter of the pattern
pub reach-equal : (P T : List ℕ) (s k : ℕ) → k < length P → s + k < length T → get_or P k 0 ≡ get_or T (s + k) 0 → reach P T s k ≡ reach P T s (k + 1)
unfolding equal_on equal_pairs
reach-equal P T s k h l e =
    let z : s + (k + 1) ≡ suc (s + k) = omega arith in
    let y : k + 1 ≡ suc k = omega arith in
    rw (drop-cons P k 0 h, drop-cons T (s + k) 0 l, eq-eqb (get_or P k 0) (get_or T (s + k) 0) e, z, y) (omega arith)

pub reach-unequal : (P T : List ℕ) (s k : ℕ) → k < length P → s + k < length T → (get_or P k 0 ≡ get_or T (s + k) 0 → ⊥) → reach P T s k ≡ k
unfolding equal_on equal_pairs
reach-unequal P T s k h l e = rw (drop-cons P k 0 h, drop-cons T (s + k) 0 l, ne_eqb (get_or P k 0) (get_or T (s + k) 0) e) (omega arith)

-- the window's first pair
pub reach-first : (P T : List ℕ) (s : ℕ) → 1 ≤ length P → s < length T → get_or P 0 0 ≡ get_or T s 0 → reach P T s 0 ≡ reach P T s 1
reach-first P T s h l e = reach-equal P T s 0 (omega arith) (omega arith) (e ∙ at_same T (omega arith))

pub reach-nothing : (P T : List ℕ) (s : ℕ) → 1 ≤ length P → s < length T → (get_or P 0 0 ≡ get_or T s 0 → ⊥) → reach P T s 0 ≡ 0
reach-nothing P T s h l differs = reach-unequal P T s 0 (omega arith) (omega arith) (λ e. differs (e ∙ at_same T (omega arith)))

-- where the first letter was looked at by itself, and is equal, and `compare_up` went on from the second: as many as were found, at most all
pub reach-after_first : (P T : List ℕ) (s : ℕ) {k j : ℕ} → 1 ≤ length P → s < length T → get_or P 0 0 ≡ get_or T s 0 → length P - 1 ≤ j
    → k ≡ equal_pairs (take (length P - 1) (drop 1 P)) (take j (drop (s + 1) T)) → (1 + k ≡ reach P T s 0) × (1 + k ≤ length P)
reach-after_first P T s some inside first long is =
    let from : 1 + _ ≡ reach P T s 1 = reach-compared P T s 1 some long is in
    (omega (arith, from, reach-first P T s some inside first), omega (arith, from, reach-le P T s 1 some))

pub reach-done : (P T : List ℕ) (s k : ℕ) → length P ≤ k → reach P T s k ≡ k
unfolding equal_on equal_pairs
reach-done P T s k h = rw (drop_of_length-le P h) (omega arith)

-- a loop that compares first to last, from letter q + 1 of the window at s up to letter `end`, has passed letter k: from the next letter on it reaches as far as from its start
pub record Upward (P T : List ℕ) (s q end k : ℕ) : Type 0 where
  pub same : reach P T s k ≡ reach P T s q
  pub from : q ≤ k
  pub upto : k ≤ end

-- it begins: with no letter passed; or with the first, where nothing is carried and that letter is equal
pub up_none : {P T : List ℕ} {s q end k : ℕ} → k ≡ q → q ≤ end → Upward P T s q end k
up_none {P} {T} {s} is h = record { same = ap (reach P T s) is; from = omega arith; upto = omega arith }

pub up_first : {P T : List ℕ} {s q k : ℕ} → 1 ≤ length P → s < length T → q ≡ 0 → k ≡ 1 → get_or P 0 0 ≡ get_or T s 0 → Upward P T s q (length P) k
up_first {P} {T} {s} some inside none one e =
    record { same = ap (reach P T s) one ∙ sym (reach-first P T s some inside e) ∙ ap (reach P T s) (sym none); from = omega arith; upto = omega arith }

module _ {P T : List ℕ} {s q end k : ℕ} (u : Upward P T s q end k) (inside : s + length P ≤ length T) where
  -- one letter more is equal
  pub up_next : k < end → end ≤ length P → get_or P k 0 ≡ get_or T (s + k) 0 → Upward P T s q end (k + 1)
  up_next h l e = record { same = sym (reach-equal P T s k (omega arith) (omega arith) e) ∙ u.same; from = omega (arith, u.from); upto = omega arith }

  -- it is left, at an unequal pair or past the pattern's end: as many letters are equal as it has passed
  pub up-stops : k < length P → (get_or P k 0 ≡ get_or T (s + k) 0 → ⊥) → k ≡ reach P T s q
  up-stops h differs = sym (reach-unequal P T s k h (omega arith) differs) ∙ u.same

  pub up_ends : length P ≤ k → k ≡ reach P T s q
  up_ends h = sym (reach-done P T s k h) ∙ u.same

-- all letters are reached exactly where the pattern stands
pub reach-reports : (P T : List ℕ) (s q : ℕ) → s + length P ≤ length T → q < length P → Meets P T s q → eqb (reach P T s q) (length P) ≡ occurs_at P T s
unfolding Meets
reach-reports P T s q inside q< m =
    let r : ℕ = reach P T s q in
    by-test (λ t. t ≡ occurs_at P T s) (eqb r (length P))
    (λ e. sym (occurs P T s (record { inside = inside; letters = λ i l. reach-meets P T s q m i (omega (arith, eqb-true r (length P) e)) })))
    (λ e.
    let short : r < length P = omega (arith, eqb-false r (length P) e, reach-le P T s q (omega arith)) in
    by-test (λ t. false ≡ t) (occurs_at P T s)
    (λ o. absurd (reach-differs P T s q inside short ((stands P T s (omega arith) o).letters r short)))
    (λ _. refl))

-- ---- last to first

pub down_le : (P T : List ℕ) (s k : ℕ) → equal_down P T s k ≤ k
unfolding equal_down
down_le P T s zero = omega arith
down_le P T s (suc k) = by-test (λ t. cond t (suc (equal_down P T s k)) 0 ≤ suc k) (eqb (get_or P k 0) (get_or T (s + k) 0)) (λ _. omega (arith, down_le P T s k)) (λ _. omega arith)

-- the letters passed are equal
pub down-meets : (P T : List ℕ) (s k i : ℕ) → k ≤ i + equal_down P T s k → i < k → get_or P i 0 ≡ get_or T (s + i) 0
unfolding equal_down
down-meets P T s zero i h l = absurd (omega arith)
down-meets P T s (suc k) i h l =
    by-test (λ t. suc k ≤ i + cond t (suc (equal_down P T s k)) 0 → get_or P i 0 ≡ get_or T (s + i) 0) (eqb (get_or P k 0) (get_or T (s + k) 0))
    (λ e h.
    by-test (λ _. get_or P i 0 ≡ get_or T (s + i) 0) (eqb i k)
    (λ d. rw (eqb-true i k d) (eqb-true (get_or P k 0) (get_or T (s + k) 0) e))
    (λ d. down-meets P T s k i (omega arith) (omega (arith, eqb-false i k d))))
    (λ _ h. absurd (omega arith)) h

-- and the one below them is not
pub down-differs : (P T : List ℕ) (s k : ℕ) → equal_down P T s k < k → get_or P (k - 1 - equal_down P T s k) 0 ≡ get_or T (s + (k - 1 - equal_down P T s k)) 0 → ⊥
unfolding equal_down
down-differs P T s zero h e = omega arith
down-differs P T s (suc k) h e =
    by-test
    (λ t. cond t (suc (equal_down P T s k)) 0 < suc k → get_or P (suc k - 1 - cond t (suc (equal_down P T s k)) 0) 0 ≡ get_or T (s + (suc k - 1 - cond t (suc (equal_down P T s k)) 0)) 0 → ⊥)
    (eqb (get_or P k 0) (get_or T (s + k) 0))
    (λ _ h e. down-differs P T s k (omega arith) (at_same P (omega arith) ∙ e ∙ at_same T (omega arith)))
    (λ d h e. eqb-false (get_or P k 0) (get_or T (s + k) 0) d (at_same P (omega arith) ∙ e ∙ at_same T (omega arith)))
    h e

-- one pair at a time: it is equal, and it is not
pub down-equal : (P T : List ℕ) (s k : ℕ) → 1 ≤ k → get_or P (k - 1) 0 ≡ get_or T (s + (k - 1)) 0 → equal_down P T s k ≡ suc (equal_down P T s (k - 1))
unfolding equal_down
down-equal P T s zero h e = absurd (omega arith)
down-equal P T s (suc k) h e = let z : suc k - 1 ≡ k = omega arith in rw (z, eq-eqb (get_or P k 0) (get_or T (s + k) 0) (rw z at e))

pub down-unequal : (P T : List ℕ) (s k : ℕ) → 1 ≤ k → (get_or P (k - 1) 0 ≡ get_or T (s + (k - 1)) 0 → ⊥) → equal_down P T s k ≡ 0
unfolding equal_down
down-unequal P T s zero h e = refl
down-unequal P T s (suc k) h e = let z : suc k - 1 ≡ k = omega arith in rw (ne_eqb (get_or P k 0) (get_or T (s + k) 0) (rw z at e))

pub down-none : (P T : List ℕ) (s : ℕ) → equal_down P T s 0 ≡ 0
unfolding equal_down
down-none P T s = refl

-- the first k letters are all equal exactly where the pattern stands, if the letters after them are
pub down-reports : (P T : List ℕ) (s k : ℕ) → s + length P ≤ length T → 1 ≤ length P → k ≤ length P
    → ((i : ℕ) → k ≤ i → i < length P → get_or P i 0 ≡ get_or T (s + i) 0) → eqb (equal_down P T s k) k ≡ occurs_at P T s
down-reports P T s k inside some k≤ above =
    let d : ℕ = equal_down P T s k in
    by-test (λ t. t ≡ occurs_at P T s) (eqb d k)
    (λ e.
    let all : d ≡ k = eqb-true d k e in
    sym (occurs P T s (record { inside = inside; letters = λ i l. by-test (λ _. get_or P i 0 ≡ get_or T (s + i) 0) (ltb i k) (λ f. down-meets P T s k i (omega arith) (ltb-true i k f)) (λ f. above i (ltb-false i k f) l) })))
    (λ e.
    let short : d < k = omega (arith, eqb-false d k e, down_le P T s k) in
    by-test (λ t. false ≡ t) (occurs_at P T s)
    (λ o. absurd (down-differs P T s k short ((stands P T s some o).letters (k - 1 - d) (omega arith))))
    (λ _. refl))

-- inside the pattern and the text, comparing for any numbers is comparing; elsewhere it is nothing
pub compared_down-is : (P T : List ℕ) (s k : ℕ) → k ≤ length P → s + k ≤ length T → compared_down P T s k ≡ equal_down P T s k
unfolding compared_down
compared_down-is P T s k h l = rw (le-leb k (length P) h, le-leb (s + k) (length T) l)

pub compared_down-long : (P T : List ℕ) (s k : ℕ) → length P < k → compared_down P T s k ≡ 0
unfolding compared_down
compared_down-long P T s k h = rw (lt-leb k (length P) h)

pub compared_down-past : (P T : List ℕ) (s k : ℕ) → k ≤ length P → length T < s + k → compared_down P T s k ≡ 0
unfolding compared_down
compared_down-past P T s k h l = rw (le-leb k (length P) h, lt-leb (s + k) (length T) l)

-- what comparing from letter `count` down gave, inside the pattern and the text: k letters are equal
pub record Downward (P T : List ℕ) (s count k : ℕ) : Type 0 where
  pub is : k ≡ equal_down P T s count
  pub upto : k ≤ count

pub down-compared : {P T : List ℕ} {s count k : ℕ} → k ≡ compared_down P T s count → count ≤ length P → s + count ≤ length T → Downward P T s count k
down-compared {P} {T} {s} {count} e h l = let is = e ∙ compared_down-is P T s count h l in record { is = is; upto = omega (arith, is, down_le P T s count) }

-- where the last letter was compared first: it is equal, and k of those before it are; or it is not
module _ {P T : List ℕ} {s count : ℕ} (some : 1 ≤ count) where
  pub down-last : {k : ℕ} → get_or P (count - 1) 0 ≡ get_or T (s + (count - 1)) 0 → Downward P T s (count - 1) k → Downward P T s count (1 + k)
  down-last e d = let is = down-equal P T s count some e in record { is = omega (arith, d.is); upto = omega (arith, d.upto) }

  pub down-no-last : (get_or P (count - 1) 0 ≡ get_or T (s + (count - 1)) 0 → ⊥) → Downward P T s count 0
  down-no-last differs = record { is = sym (down-unequal P T s count some differs); upto = omega arith }

-- ---- the looks

pub looks-part : (count equal : ℕ) → equal < count → looks count equal ≡ equal + 1
looks-part count equal h = rw (lt-ltb equal count h) (omega arith)

pub looks-all : (count equal : ℕ) → count ≤ equal → looks count equal ≡ equal
looks-all count equal h = rw (le-ltb equal count h)

pub looks-le : (count equal : ℕ) → equal ≤ count → looks count equal ≤ count
looks-le count equal h = by-test (λ t. ltb equal count ≡ t → cond t (suc equal) equal ≤ count) (ltb equal count) (λ _ e. omega (arith, ltb-true equal count e)) (λ _ _. h) refl

-- a comparing looks at one pair more than are equal at most
pub looks-few : (count equal : ℕ) → looks count equal ≤ suc equal
looks-few count equal = by-test (λ t. cond t (suc equal) equal ≤ suc equal) (ltb equal count) (λ _. omega arith) (λ _. omega arith)
