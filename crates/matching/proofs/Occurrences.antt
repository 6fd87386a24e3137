-- The two laws that make `occurrences` believable: a position is listed exactly where the pattern stands (`occurrences-are`), and the list strictly
-- rises, so each is listed once (`occurrences-rise`). Before them, how the list is read from a position on, for the window machine. Assumes nothing.
use mathlib.Core.Path.{◌≡◌, refl, sym, ap, ap₂, ◌∙◌}
use Prim.Native.Nat.{ℕ, zero, suc, ◌+◌, ◌-◌, ◌≤◌, ◌<◌}
use native.Mathlib.Omega.{arith}
use native.Mathlib.Nat.{sub-zero}
use mathlib.Core.Logic.{⊎_elim}
use mathlib.Core.Bool.{true, false, cond, ◌&&◌, false≢true}
use mathlib.Core.List.{List, [], ◌∷◌, Memᴰ}
use lib.ListN.{length, get_or, take, drop, length-drop, length-take}
use lib.Seq.{get_or-take, get_or-drop, ext_get_or}
use lib.Dec.{eqb, ltb}
use borrow.Author.Tests.{eqb-true, eqb-false, eq-eqb, ltb-true, ltb-false}
use Rattle.matching.specs.Occurrences.{same, occurs_at, occurs_from, occurrences, Occurs}
use Rattle.matching.proofs.CaseAnalysis.{by-test}

-- ---- equal lists

pub same_true : (xs ys : List ℕ) → same xs ys ≡ true → xs ≡ ys
unfolding same
same_true [] [] e = refl
same_true [] (y ∷ ys) e = absurd (false≢true e)
same_true (x ∷ xs) [] e = absurd (false≢true e)
same_true (x ∷ xs) (y ∷ ys) e =
    by-test (λ t. t && same xs ys ≡ true → x ∷ xs ≡ y ∷ ys) (eqb x y)
    (λ h k. ap₂ (λ z zs. z ∷ zs) (eqb-true x y h) (same_true xs ys k))
    (λ h k. absurd (false≢true k)) e

same_refl : (xs : List ℕ) → same xs xs ≡ true
unfolding same
same_refl [] = refl
same_refl (x ∷ xs) = rw (eq-eqb x x refl, same_refl xs)

pub eq-same : {xs ys : List ℕ} → xs ≡ ys → same xs ys ≡ true
eq-same {xs} {ys} e = rw (← e) (same_refl xs)

-- ---- the pattern stands at k, letter by letter

pub record Stands (P T : List ℕ) (k : ℕ) : Type 0 where
  pub inside : k + length P ≤ length T
  pub letters : (i : ℕ) → i < length P → get_or P i 0 ≡ get_or T (k + i) 0

pub stands : (P T : List ℕ) (k : ℕ) → 1 ≤ length P → occurs_at P T k ≡ true → Stands P T k
unfolding occurs_at
stands P T k h e =
    let eq : take (length P) (drop k T) ≡ P = same_true _ _ e in
    record {
      inside = omega (arith, ap length eq, length-take (length P) (drop k T), length-drop k T);
      letters = λ i l. ap (λ (x : List ℕ). get_or x i 0) (sym eq) ∙ get_or-take (length P) (drop k T) i 0 l ∙ get_or-drop k T i 0;
    }

pub occurs : (P T : List ℕ) (k : ℕ) → Stands P T k → occurs_at P T k ≡ true
unfolding occurs_at
occurs P T k st = eq-same (ext_get_or 0 (take (length P) (drop k T)) P (omega (arith, st.inside, length-take (length P) (drop k T), length-drop k T))
    (λ i h.
    let l : i < length P = omega (arith, length-take (length P) (drop k T)) in
    get_or-take (length P) (drop k T) i 0 l ∙ get_or-drop k T i 0 ∙ sym (st.letters i l)))

pub no-occurrence : (P T : List ℕ) (k : ℕ) → 1 ≤ length P → (Stands P T k → ⊥) → occurs_at P T k ≡ false
no-occurrence P T k h none = by-test (λ t. t ≡ false) (occurs_at P T k) (λ e. absurd (none (stands P T k h e))) (λ _. refl)

-- ---- the occurrences from a position on

abbrev pub rest : List ℕ → List ℕ → ℕ → List ℕ
rest P T k = occurs_from (suc (length T) - k) P T k

pub rest-step : (P T : List ℕ) (k : ℕ) → k ≤ length T → rest P T k ≡ cond (occurs_at P T k) (k ∷ rest P T (suc k)) (rest P T (suc k))
unfolding occurs_from
rest-step P T k h = let e : suc (length T) - k ≡ suc (suc (length T) - suc k) = omega arith in rw e

pub rest_end : (P T : List ℕ) (k : ℕ) → length T < k → rest P T k ≡ []
unfolding occurs_from
rest_end P T k h = let e : suc (length T) - k ≡ 0 = omega arith in rw e

-- d positions without an occurrence may be passed over
pub rest-skip : (P T : List ℕ) (d k : ℕ) → ((j : ℕ) → k ≤ j → j < k + d → occurs_at P T j ≡ false) → rest P T k ≡ rest P T (k + d)
rest-skip P T zero k none = ap (rest P T) (omega arith)
rest-skip P T (suc d) k none =
    by-test (λ _. rest P T k ≡ rest P T (k + suc d)) (ltb (length T) k)
    (λ e. let h : length T < k = ltb-true (length T) k e in rest_end P T k h ∙ sym (rest_end P T (k + suc d) (omega arith)))
    (λ e. rest-step P T k (ltb-false _ _ e) ∙ rw (none k (omega arith) (omega arith)) (rest-skip P T d (suc k) (λ j h l. none j (omega arith) (omega arith)) ∙ ap (rest P T) (omega arith)))

pub rest-none : (P T : List ℕ) (s : ℕ) → ((j : ℕ) → s ≤ j → occurs_at P T j ≡ false) → rest P T s ≡ []
rest-none P T s none = rest-skip P T (suc (length T)) s (λ j a _. none j a) ∙ rest_end P T (s + suc (length T)) (omega arith)

pub rest-past : (P T : List ℕ) (s : ℕ) → 1 ≤ length P → length T < s + length P → rest P T s ≡ []
rest-past P T s h l = rest-none P T s (λ j a. no-occurrence P T j h (λ st. omega (arith, st.inside)))

-- an entry of a list is a member of it
pub member : (l : List ℕ) (i : ℕ) → i < length l → Memᴰ (get_or l i 0) l
member [] i h = absurd (omega arith)
member (x ∷ l) zero h = mathlib.Core.List.Memᴰ.head refl
member (x ∷ l) (suc i) h = mathlib.Core.List.Memᴰ.tail (member l i (omega arith))

-- a pattern longer than the text stands nowhere
pub occurrences-none : (P T : List ℕ) → length T < length P → occurrences P T ≡ []
unfolding occurrences
occurrences-none P T h = ap (λ (c : ℕ). occurs_from c P T 0) (sym (sub-zero (suc (length T)))) ∙ rest-past P T 0 (omega arith) (omega arith)

few : (c : ℕ) (P T : List ℕ) (k : ℕ) → length (occurs_from c P T k) ≤ c
unfolding occurs_from
few zero P T k = omega arith
few (suc c) P T k =
    by-test (λ t. length (cond t (k ∷ occurs_from c P T (suc k)) (occurs_from c P T (suc k))) ≤ suc c) (occurs_at P T k)
    (λ _. omega (arith, few c P T (suc k))) (λ _. omega (arith, few c P T (suc k)))

pub occurrences-few : (P T : List ℕ) → length (occurrences P T) ≤ suc (length T)
unfolding occurrences
occurrences-few P T = few (suc (length T)) P T 0

-- ---- the two laws

pub from-sound : (c : ℕ) (P T : List ℕ) (k x : ℕ) → Memᴰ x (occurs_from c P T k) → (k ≤ x) × ((x < k + c) × (occurs_at P T x ≡ true))
unfolding occurs_from
from-sound zero P T k x m = absurd (mathlib.Core.List.Memᴰ.not-nil m)
from-sound (suc c) P T k x m =
    by-test (λ t. occurs_at P T k ≡ t → Memᴰ x (cond t (k ∷ occurs_from c P T (suc k)) (occurs_from c P T (suc k))) → (k ≤ x) × ((x < k + suc c) × (occurs_at P T x ≡ true))) (occurs_at P T k)
    (λ _ e m. ⊎_elim
    (λ (d : x ≡ k). (omega arith, (omega arith, ap (occurs_at P T) d ∙ e)))
    (λ (m' : Memᴰ x (occurs_from c P T (suc k))). later (from-sound c P T (suc k) x m'))
    (mathlib.Core.List.Memᴰ.cases_cons m))
    (λ _ e m. later (from-sound c P T (suc k) x m)) refl m
  where
    later : (suc k ≤ x) × ((x < suc k + c) × (occurs_at P T x ≡ true)) → (k ≤ x) × ((x < k + suc c) × (occurs_at P T x ≡ true))
    later p = (omega arith, (omega arith, p.1.1))

from-complete : (c : ℕ) (P T : List ℕ) (k x : ℕ) → k ≤ x → x < k + c → occurs_at P T x ≡ true → Memᴰ x (occurs_from c P T k)
unfolding occurs_from
from-complete zero P T k x h l e = absurd (omega arith)
from-complete (suc c) P T k x h l e =
    by-test (λ _. Memᴰ x (cond (occurs_at P T k) (k ∷ occurs_from c P T (suc k)) (occurs_from c P T (suc k)))) (eqb x k)
    (λ d. let xk : x ≡ k = eqb-true x k d in let o : occurs_at P T k ≡ true = ap (occurs_at P T) (sym xk) ∙ e in rw o (mathlib.Core.List.Memᴰ.head xk))
    (λ d.
    let m : Memᴰ x (occurs_from c P T (suc k)) = from-complete c P T (suc k) x (omega (arith, eqb-false x k d)) (omega arith) e in
    by-test (λ t. Memᴰ x (cond t (k ∷ occurs_from c P T (suc k)) (occurs_from c P T (suc k)))) (occurs_at P T k) (λ _. mathlib.Core.List.Memᴰ.tail m) (λ _. m))

-- a position is listed exactly where k + m ≤ n and the m letters from k on are the pattern
pub occurrences-are : (P T : List ℕ) (k : ℕ) → (Memᴰ k (occurrences P T) → Occurs P T k) × (Occurs P T k → Memᴰ k (occurrences P T))
unfolding occurrences occurs_at
occurrences-are P T k = (
  λ m.
      let p = from-sound (suc (length T)) P T 0 k m in
      let eq : take (length P) (drop k T) ≡ P = same_true _ _ p.1.1 in
      record { inside = omega (arith, ap length eq, length-take (length P) (drop k T), length-drop k T); equal = eq },
  λ o. from-complete (suc (length T)) P T 0 k (omega arith) (omega (arith, o.inside)) (eq-same o.equal),
)

from-least : (c : ℕ) (P T : List ℕ) (k i : ℕ) → i < length (occurs_from c P T k) → k ≤ get_or (occurs_from c P T k) i 0
unfolding occurs_from
from-least zero P T k i h = absurd (omega arith)
from-least (suc c) P T k i h =
    by-test (λ t. i < length (cond t (k ∷ occurs_from c P T (suc k)) (occurs_from c P T (suc k))) → k ≤ get_or (cond t (k ∷ occurs_from c P T (suc k)) (occurs_from c P T (suc k))) i 0) (occurs_at P T k)
    (λ _ h. first i h (from-least c P T (suc k))) (λ _ h. omega (arith, from-least c P T (suc k) i h)) h
  where
    first : (i : ℕ) → i < suc (length (occurs_from c P T (suc k))) → ((i : ℕ) → i < length (occurs_from c P T (suc k)) → suc k ≤ get_or (occurs_from c P T (suc k)) i 0) → k ≤ get_or (k ∷ occurs_from c P T (suc k)) i 0
    first zero h least = omega arith
    first (suc i) h least = omega (arith, least i (omega arith))

-- a listed position lies within the text
from-below : (c : ℕ) (P T : List ℕ) (k i : ℕ) → i < length (occurs_from c P T k) → get_or (occurs_from c P T k) i 0 < k + c
unfolding occurs_from
from-below zero P T k i h = absurd (omega arith)
from-below (suc c) P T k i h =
    by-test (λ t. i < length (cond t (k ∷ occurs_from c P T (suc k)) (occurs_from c P T (suc k))) → get_or (cond t (k ∷ occurs_from c P T (suc k)) (occurs_from c P T (suc k))) i 0 < k + suc c) (occurs_at P T k)
    (λ _ h. first i h (from-below c P T (suc k))) (λ _ h. omega (arith, from-below c P T (suc k) i h)) h
  where
    first : (i : ℕ) → i < suc (length (occurs_from c P T (suc k))) → ((i : ℕ) → i < length (occurs_from c P T (suc k)) → get_or (occurs_from c P T (suc k)) i 0 < suc k + c) → get_or (k ∷ occurs_from c P T (suc k)) i 0 < k + suc c
    first zero h below = omega arith
    first (suc i) h below = omega (arith, below i (omega arith))

pub occurrences-below : (P T : List ℕ) (i : ℕ) → i < length (occurrences P T) → get_or (occurrences P T) i 0 ≤ length T
unfolding occurrences
occurrences-below P T i h = omega (arith, from-below (suc (length T)) P T 0 i h)

from-rises : (c : ℕ) (P T : List ℕ) (k i j : ℕ) → i < j → j < length (occurs_from c P T k) → get_or (occurs_from c P T k) i 0 < get_or (occurs_from c P T k) j 0
unfolding occurs_from
from-rises zero P T k i j l h = absurd (omega arith)
from-rises (suc c) P T k i j l h =
    by-test (λ t. j < length (cond t (k ∷ occurs_from c P T (suc k)) (occurs_from c P T (suc k))) → get_or (cond t (k ∷ occurs_from c P T (suc k)) (occurs_from c P T (suc k))) i 0 < get_or (cond t (k ∷ occurs_from c P T (suc k)) (occurs_from c P T (suc k))) j 0) (occurs_at P T k)
    (λ _ h. first i j l h (from-rises c P T (suc k))) (λ _ h. from-rises c P T (suc k) i j l h) h
  where
    first : (i j : ℕ) → i < j → j < suc (length (occurs_from c P T (suc k)))
        → ((i j : ℕ) → i < j → j < length (occurs_from c P T (suc k)) → get_or (occurs_from c P T (suc k)) i 0 < get_or (occurs_from c P T (suc k)) j 0)
        → get_or (k ∷ occurs_from c P T (suc k)) i 0 < get_or (k ∷ occurs_from c P T (suc k)) j 0
    first i zero l h rises = absurd (omega arith)
    first zero (suc j) l h rises = from-least c P T (suc k) j (omega arith)
    first (suc i) (suc j) l h rises = rises i j (omega arith) (omega arith)

-- the list strictly rises
pub occurrences-rise : (P T : List ℕ) (i j : ℕ) → i < j → j < length (occurrences P T) → get_or (occurrences P T) i 0 < get_or (occurrences P T) j 0
unfolding occurrences
occurrences-rise P T = from-rises (suc (length T)) P T 0
