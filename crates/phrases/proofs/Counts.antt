-- The laws of counting: the lowest bit is the first of the set ones, taking bits touches only their phrases, and what is left and kept is by the places at which a phrase's bit is set. Assumes nothing.
use mathlib.Core.Path.{◌≡◌, refl, sym, ap, ap₂, ◌∙◌}
use Prim.Native.Nat.{ℕ, zero, suc, ◌+◌, ◌-◌, ◌^◌, ◌≤◌, ◌<◌}
use native.Mathlib.Omega.{arith}
use mathlib.Core.Bool.{Bool, true, false, cond, ◌&&◌, not, and-true, and-false}
use mathlib.Core.List.{List, [], ◌∷◌}
use lib.ListN.{length, get_or, set, length-set}
use lib.Seq.{get_or-set_same, get_or-set_other}
use lib.Dec.{eqb, leb}
use borrow.Author.Tests.{eqb-true, eqb-false, eq-eqb, ne_eqb, leb-true, leb-false, le-leb, lt-leb}
use Rattle.matching.specs.Occurrences.{has_nth}
use Rattle.matching.proofs.CaseAnalysis.{by-test}
use Rattle.phrases.specs.Phrases.{is_set, risen}
use Rattle.phrases.specs.Counts.{set_from, set_bits, Counts, hit, hits, counts}
use Rattle.phrases.proofs.Bits.{Lowest}

-- ---- the bits that are set

-- numbers with the same bits
set_same : (count k a b : ℕ) → ((j : ℕ) → k ≤ j → is_set a j ≡ is_set b j) → set_from count k a ≡ set_from count k b
unfolding set_from
set_same zero k a b e = refl
set_same (suc count) k a b e = rw (e k (omega arith), set_same count (suc k) a b (λ j h. e j (omega arith)))

-- the lowest one comes first, and then those of the number without it
from_lowest : (count k n q : ℕ) → Lowest n q → k ≤ q → q < k + count → set_from count k n ≡ q ∷ set_from count k (n - 2 ^ q)
unfolding set_from
from_lowest zero k n q l h r = absurd (omega arith)
from_lowest (suc count) k n q l h r =
    by-test (λ _. set_from (suc count) k n ≡ q ∷ set_from (suc count) k (n - 2 ^ q)) (eqb k q)
    (λ e.
    let z : k ≡ q = eqb-true k q e in
    let gone : is_set (n - 2 ^ q) q ≡ false = l.others q ∙ ap (λ b. is_set n q && not b) (eq-eqb q q refl) ∙ and-false (is_set n q) in
    let kept : (j : ℕ) → suc q ≤ j → is_set n j ≡ is_set (n - 2 ^ q) j = λ j h. sym (l.others j ∙ ap (λ b. is_set n j && not b) (ne_eqb j q (λ z. omega arith)) ∙ and-true (is_set n j)) in
    rw z (rw (l.set, gone) (ap (λ x. q ∷ x) (set_same count (suc q) n (n - 2 ^ q) kept))))
    (λ e.
    let less : k < q = omega (arith, eqb-false k q e) in
    let no : is_set n k ≡ false = l.none k less in
    let no' : is_set (n - 2 ^ q) k ≡ false = l.others k ∙ ap (λ b. b && not (eqb k q)) no in
    rw (no, no') (from_lowest count (suc k) n q l less (omega arith)))

pub lowest-first : (n q : ℕ) → Lowest n q → q < 64 → set_bits n ≡ q ∷ set_bits (n - 2 ^ q)
lowest-first n q l h = from_lowest 64 0 n q l (omega arith) (omega arith)

-- no bit
pub no_bits : set_bits 0 ≡ []
unfolding set_from
no_bits = refl

-- ---- one phrase

module _ (k start : ℕ) (c : Counts) where
  pub hit-left : k < length c.left → get_or (hit k start c).left k 0 ≡ get_or c.left k 0 - 1
  unfolding hit
  hit-left h = get_or-set_same c.left k (get_or c.left k 0 - 1) 0 h

  pub hit-place : k < length c.place → get_or (hit k start c).place k 0 ≡ cond (eqb (get_or c.left k 0) 1) start (get_or c.place k 0)
  unfolding hit
  hit-place h = by-test (λ b. get_or (cond b (set c.place k start) c.place) k 0 ≡ cond b start (get_or c.place k 0)) (eqb (get_or c.left k 0) 1) (λ _. get_or-set_same c.place k start 0 h) (λ _. refl)

  -- the others stay
  pub other-left : (j : ℕ) → (j ≡ k → ⊥) → get_or (hit k start c).left j 0 ≡ get_or c.left j 0
  unfolding hit
  other-left j n = get_or-set_other c.left k j (get_or c.left k 0 - 1) 0 n

  pub other_place : (j : ℕ) → (j ≡ k → ⊥) → get_or (hit k start c).place j 0 ≡ get_or c.place j 0
  unfolding hit
  other_place j n = by-test (λ b. get_or (cond b (set c.place k start) c.place) j 0 ≡ get_or c.place j 0) (eqb (get_or c.left k 0) 1) (λ _. get_or-set_other c.place k j start 0 n) (λ _. refl)

  pub left-size : length (hit k start c).left ≡ length c.left
  unfolding hit
  left-size = length-set c.left k (get_or c.left k 0 - 1)

  pub place-size : length (hit k start c).place ≡ length c.place
  unfolding hit
  place-size = by-test (λ b. length (cond b (set c.place k start) c.place) ≡ length c.place) (eqb (get_or c.left k 0) 1) (λ _. length-set c.place k start) (λ _. refl)

-- ---- the phrases that end at a letter

-- one entry of each list
pub record Entry (j : ℕ) (c c' : Counts) (left place : ℕ) : Type 0 where
  pub left_at : get_or c'.left j 0 ≡ left
  pub place_at : get_or c'.place j 0 ≡ place
  pub left-long : length c'.left ≡ length c.left
  pub place-long : length c'.place ≡ length c.place

module _ (read : ℕ) (lens : List ℕ) (e : ℕ) where
  -- bits from k on leave the phrases before k alone
  before : (count k j : ℕ) (c : Counts) → j < k → Entry j c (hits read lens (set_from count k e) c) (get_or c.left j 0) (get_or c.place j 0)
  unfolding set_from hits
  before zero k j c h = record { left_at = refl; place_at = refl; left-long = refl; place-long = refl }
  before (suc count) k j c h =
      by-test (λ b. Entry j c (hits read lens (cond b (k ∷ set_from count (suc k) e) (set_from count (suc k) e)) c) (get_or c.left j 0) (get_or c.place j 0)) (is_set e k)
      (λ _.
      let m = hit k (read - get_or lens k 0) c in
      let r = before count (suc k) j m (omega arith) in
      record {
        left_at = r.left_at ∙ other-left k (read - get_or lens k 0) c j (λ z. omega arith);
        place_at = r.place_at ∙ other_place k (read - get_or lens k 0) c j (λ z. omega arith);
        left-long = r.left-long ∙ left-size k (read - get_or lens k 0) c;
        place-long = r.place-long ∙ place-size k (read - get_or lens k 0) c;
      })
      (λ _. before count (suc k) j c (omega arith))

  -- the phrase of the first of them is counted once if its bit is set
  first : (count k : ℕ) (c : Counts) → k < length c.left → k < length c.place
      → Entry k c (hits read lens (set_from (suc count) k e) c) (cond (is_set e k) (get_or c.left k 0 - 1) (get_or c.left k 0)) (cond (is_set e k && eqb (get_or c.left k 0) 1) (read - get_or lens k 0) (get_or c.place k 0))
  unfolding set_from hits
  first count k c a b =
      by-test
      (λ t. Entry k c (hits read lens (cond t (k ∷ set_from count (suc k) e) (set_from count (suc k) e)) c) (cond t (get_or c.left k 0 - 1) (get_or c.left k 0)) (cond (t && eqb (get_or c.left k 0) 1) (read - get_or lens k 0) (get_or c.place k 0)))
      (is_set e k)
      (λ _.
      let start : ℕ = read - get_or lens k 0 in
      let r = before count (suc k) k (hit k start c) (omega arith) in
      record {
        left_at = r.left_at ∙ hit-left k start c a;
        place_at = r.place_at ∙ hit-place k start c b;
        left-long = r.left-long ∙ left-size k start c;
        place-long = r.place-long ∙ place-size k start c;
      })
      (λ _. before count (suc k) k c (omega arith))

  -- and so is each one among them
  among : (count k j : ℕ) (c : Counts) → k ≤ j → j < k + count → j < length c.left → j < length c.place
      → Entry j c (hits read lens (set_from count k e) c) (cond (is_set e j) (get_or c.left j 0 - 1) (get_or c.left j 0)) (cond (is_set e j && eqb (get_or c.left j 0) 1) (read - get_or lens j 0) (get_or c.place j 0))
  unfolding set_from hits
  among zero k j c h r a b = absurd (omega arith)
  among (suc count) k j c h r a b =
      by-test (λ _. Entry j c (hits read lens (set_from (suc count) k e) c) (cond (is_set e j) (get_or c.left j 0 - 1) (get_or c.left j 0)) (cond (is_set e j && eqb (get_or c.left j 0) 1) (read - get_or lens j 0) (get_or c.place j 0))) (eqb j k)
      (λ z. let z' : j ≡ k = eqb-true j k z in rw z' (first count k c (rw z' at a) (rw z' at b)))
      (λ z.
      let n : j ≡ k → ⊥ = eqb-false j k z in
      by-test (λ t. Entry j c (hits read lens (cond t (k ∷ set_from count (suc k) e) (set_from count (suc k) e)) c) (cond (is_set e j) (get_or c.left j 0 - 1) (get_or c.left j 0)) (cond (is_set e j && eqb (get_or c.left j 0) 1) (read - get_or lens j 0) (get_or c.place j 0))) (is_set e k)
      (λ _.
      let start : ℕ = read - get_or lens k 0 in
      let left-kept : get_or (hit k start c).left j 0 ≡ get_or c.left j 0 = other-left k start c j n in
      let place_kept : get_or (hit k start c).place j 0 ≡ get_or c.place j 0 = other_place k start c j n in
      let u = among count (suc k) j (hit k start c) (omega arith) (omega arith) (omega (arith, left-size k start c)) (omega (arith, place-size k start c)) in
      record {
        left_at = u.left_at ∙ ap (λ x. cond (is_set e j) (x - 1) x) left-kept;
        place_at = u.place_at ∙ ap₂ (λ x y. cond (is_set e j && eqb x 1) (read - get_or lens j 0) y) left-kept place_kept;
        left-long = u.left-long ∙ left-size k start c;
        place-long = u.place-long ∙ place-size k start c;
      })
      (λ _. among count (suc k) j c (omega arith) (omega arith) a b))

-- at a letter, each phrase whose bit is set is counted once
at-letter : (read : ℕ) (lens : List ℕ) (e j : ℕ) (c : Counts) → j < 64 → j < length c.left → j < length c.place
    → Entry j c (hits read lens (set_bits e) c) (cond (is_set e j) (get_or c.left j 0 - 1) (get_or c.left j 0)) (cond (is_set e j && eqb (get_or c.left j 0) 1) (read - get_or lens j 0) (get_or c.place j 0))
at-letter read lens e j c h a b = among read lens e 64 0 j c (omega arith) (omega arith) a b

-- ---- letter by letter

-- no place has an ordinal
nth-none : (o : ℕ) → has_nth [] o ≡ false
nth-none zero = refl
nth-none (suc o) = ap (λ t. leb 1 (suc o) && t) (lt-leb (suc o) 0 (omega arith)) ∙ and-false (leb 1 (suc o))

-- a place, and then those that follow for an ordinal less by one
nth-next : (x : ℕ) (rest : List ℕ) (o p : ℕ) → cond (has_nth rest (o - 1)) (get_or rest (o - 1 - 1) 0) (cond (eqb o 1) x p) ≡ cond (has_nth (x ∷ rest) o) (get_or (x ∷ rest) (o - 1) 0) p
nth-next x rest zero p = refl
nth-next x rest (suc zero) p = sym (ap (λ t. cond t x p) (le-leb 1 (suc (length rest)) (omega arith)))
nth-next x rest (suc (suc o)) p =
    let one : suc (suc o) - 1 ≡ suc o = omega arith in
    let two : suc o - 1 ≡ o = omega arith in
    rw (one, two)
    (ap (λ t. cond (has_nth rest (suc o)) (get_or rest o 0) (cond t x p)) (ne_eqb (suc (suc o)) 1 (λ z. omega arith))
    ∙ ap (λ t. cond t (get_or rest o 0) p) (ap₂ (λ a b. a && b) (le-leb 1 (suc o) (omega arith) ∙ sym (le-leb 1 (suc (suc o)) (omega arith))) (more (length rest))))
  where
    more : (n : ℕ) → leb (suc o) n ≡ leb (suc (suc o)) (suc n)
    more n =
        by-test (λ t. leb (suc o) n ≡ t → t ≡ leb (suc (suc o)) (suc n)) (leb (suc o) n)
        (λ e _. sym (le-leb (suc (suc o)) (suc n) (omega (arith, leb-true (suc o) n e))))
        (λ e _. sym (lt-leb (suc (suc o)) (suc n) (omega (arith, leb-false (suc o) n e))))
        refl

-- what a letter's number makes of one phrase, and then those after it: O are the places that they give
one-letter : (t : Bool) (x l p : ℕ) (O : List ℕ) → let l' = cond t (l - 1) l in let p' = cond (t && eqb l 1) x p in let O' = cond t (x ∷ O) O in
    (l' - length O ≡ l - length O') × (cond (has_nth O l') (get_or O (l' - 1) 0) p' ≡ cond (has_nth O' l) (get_or O' (l - 1) 0) p)
one-letter false x l p O = (refl, refl)
one-letter true x l p O = (omega arith, nth-next x O l p)

counts-none : (read : ℕ) (lens : List ℕ) (c : Counts) → counts read lens [] c ≡ c
unfolding counts
counts-none read lens c = refl

pub counts-on : (read : ℕ) (lens : List ℕ) (e : ℕ) (es : List ℕ) (c : Counts) → counts read lens (e ∷ es) c ≡ counts (suc read) lens es (hits (suc read) lens (set_bits e) c)
unfolding counts
counts-on read lens e es c = refl

-- of phrase k the occurrences to come are fewer by the places at which its bit is set, and the place kept is that of its ordinal
pub counts-are : (lens : List ℕ) (k : ℕ) → k < 64 → (es : List ℕ) (read : ℕ) (c : Counts) → k < length c.left → k < length c.place → let found = risen k (get_or lens k 0) read es in
    Entry k c (counts read lens es c) (get_or c.left k 0 - length found) (cond (has_nth found (get_or c.left k 0)) (get_or found (get_or c.left k 0 - 1) 0) (get_or c.place k 0))
unfolding risen
counts-are lens k h [] read c a b =
    rw (counts-none read lens c)
    (record { left_at = omega arith; place_at = sym (ap (λ t. cond t (get_or [] (get_or c.left k 0 - 1) 0) (get_or c.place k 0)) (nth-none (get_or c.left k 0))); left-long = refl; place-long = refl })
counts-are lens k h (e ∷ es) read c a b =
    let x : ℕ = suc read - get_or lens k 0 in
    let O : List ℕ = risen k (get_or lens k 0) (suc read) es in
    let u = at-letter (suc read) lens e k c h a b in
    let r = counts-are lens k h es (suc read) (hits (suc read) lens (set_bits e) c) (omega (arith, u.left-long, a)) (omega (arith, u.place-long, b)) in
    let s = one-letter (is_set e k) x (get_or c.left k 0) (get_or c.place k 0) O in
    rw (counts-on read lens e es c)
    (record {
      left_at = r.left_at ∙ ap (λ l. l - length O) u.left_at ∙ s.0;
      place_at = r.place_at ∙ ap₂ (λ l p. cond (has_nth O l) (get_or O (l - 1) 0) p) u.left_at u.place_at ∙ s.1;
      left-long = r.left-long ∙ u.left-long;
      place-long = r.place-long ∙ u.place-long;
    })
