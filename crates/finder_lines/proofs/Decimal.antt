-- The decimal digits of a number, one at a time from the last, and an array in which they are found. Assumes nothing.
use mathlib.Core.Path.{◌≡◌, refl, sym, ap, ◌∙◌}
use Prim.Native.Nat.{ℕ, zero, suc, ◌+◌, ◌-◌, ◌*◌, ◌/◌, ◌%◌, ◌≤◌, ◌<◌}
use native.Mathlib.Omega.{arith}
use mathlib.Core.Bool.{cond}
use mathlib.Core.List.{List, [], ◌∷◌, ◌++◌, append-nil, append_assoc}
use lib.ListN.{length, get_or, take, drop, set, replicate, length-append, length-set, length-drop, get_or-replicate}
use lib.Seq.{drop-cons, drop-set-lt, get_or-set_same, get_or-set_other, take_all}
use lib.Dec.{ltb}
use borrow.Author.Tests.{lt-ltb, le-ltb, ltb-true, ltb-false}
use Rattle.matching.proofs.CaseAnalysis.{by-test}
use Rattle.finder_lines.specs.Lines.{decimal_in, decimal, field}

-- any two bounds above n give the same digits
decimal-enough : (f g n : ℕ) → n < f → n < g → decimal_in f n ≡ decimal_in g n
unfolding decimal_in
decimal-enough zero g n h k = absurd (omega arith)
decimal-enough (suc f) zero n h k = absurd (omega arith)
decimal-enough (suc f) (suc g) n h k =
    by-test (λ t. ltb n 10 ≡ t → cond t ((48 + n) ∷ []) (decimal_in f (n / 10) ++ (48 + n % 10) ∷ []) ≡ cond t ((48 + n) ∷ []) (decimal_in g (n / 10) ++ (48 + n % 10) ∷ [])) (ltb n 10)
    (λ _ _. refl)
    (λ _ e. ap (λ (l : List ℕ). l ++ (48 + n % 10) ∷ []) (decimal-enough f g (n / 10) (omega (arith, ltb-false n 10 e)) (omega (arith, ltb-false n 10 e))))
    refl

pub decimal-one : (n : ℕ) → n < 10 → decimal n ≡ (48 + n) ∷ []
unfolding decimal decimal_in
decimal-one n h = rw (lt-ltb n 10 h)

pub decimal-more : (n : ℕ) → 10 ≤ n → decimal n ≡ decimal (n / 10) ++ (48 + n % 10) ∷ []
unfolding decimal decimal_in
decimal-more n h = rw (le-ltb n 10 h) (ap (λ (l : List ℕ). l ++ (48 + n % 10) ∷ []) (decimal-enough n (suc (n / 10)) (n / 10) (omega arith) (omega arith)))

-- 10 to a power
unfoldable pub tens : ℕ → ℕ
tens zero = 1
tens (suc k) = 10 * tens k

-- a number below 10 to the power k + 1 has at most k + 1 digits
pub decimal-short : (k n : ℕ) → n < tens (suc k) → length (decimal n) ≤ suc k
unfolding tens
decimal-short zero n h = omega (arith, ap length (decimal-one n (omega arith)))
decimal-short (suc k) n h =
    by-test (λ _. length (decimal n) ≤ suc (suc k)) (ltb n 10)
    (λ e. omega (arith, ap length (decimal-one n (ltb-true n 10 e))))
    (λ e.
    let many : 10 ≤ n = ltb-false n 10 e in
    omega (arith, ap length (decimal-more n many), length-append (decimal (n / 10)) ((48 + n % 10) ∷ []), decimal-short k (n / 10) (omega arith)))

-- ---- an array of spaces in which the digits are found, from the last to the first

-- the digits of what is left and those behind place i are the number's
pub record Found (value : ℕ) (digits : List ℕ) (i rest : ℕ) : Type 0 where
  pub all : decimal value ≡ decimal rest ++ drop (suc i) digits
  pub space : (k : ℕ) → k ≤ i → get_or digits k 0 ≡ 32
  pub long : length digits ≡ 11
  pub low : 1 ≤ i
  pub high : i ≤ 10
  pub small : rest < tens i

pub found_none : (value : ℕ) → value < 4294967296 → Found value (replicate 11 32) 10 value
unfolding tens
found_none value h = record { all = sym (append-nil (decimal value)); space = λ k l. get_or-replicate 11 k 32 0 (omega arith); long = refl; low = omega arith; high = omega arith; small = omega arith }

-- a digit stored at i stands before those found
stored : (digits : List ℕ) (i d : ℕ) → i < length digits → drop i (set digits i d) ≡ d ∷ drop (suc i) digits
stored digits i d h =
    drop-cons (set digits i d) i 0 (omega (arith, length-set digits i d))
    ∙ ap (λ (x : ℕ). x ∷ drop (suc i) (set digits i d)) (get_or-set_same digits i d 0 h) ∙ ap (λ (l : List ℕ). d ∷ l) (drop-set-lt (suc i) digits i d (omega arith))

-- two places are left at least where the rest is not below 10
place-left : (rest i : ℕ) → 1 ≤ i → 10 ≤ rest → rest < tens i → (2 ≤ i) × (rest / 10 < tens (i - 1))
unfolding tens
place-left rest zero h l b = absurd (omega arith)
place-left rest (suc zero) h l b = absurd (omega arith)
place-left rest (suc (suc i)) h l b = let e : suc (suc i) - 1 ≡ suc i = omega arith in (omega arith, rw e (omega arith))

module _ {value : ℕ} {digits : List ℕ} {i rest : ℕ} (f : Found value digits i rest) where
  -- one digit more
  pub found_next : 10 ≤ rest → Found value (set digits i (48 + rest % 10)) (i - 1) (rest / 10)
  found_next h =
      let d : ℕ = 48 + rest % 10 in
      let low : 1 ≤ i = f.low in
      let r = place-left rest i low h f.small in
      let e : suc (i - 1) ≡ i = omega arith in
      record {
        all =
            f.all ∙ ap (λ (l : List ℕ). l ++ drop (suc i) digits) (decimal-more rest h) ∙ append_assoc (decimal (rest / 10)) (d ∷ []) (drop (suc i) digits)
            ∙ ap (λ (l : List ℕ). decimal (rest / 10) ++ l) (sym (ap (λ (n : ℕ). drop n (set digits i d)) e ∙ stored digits i d (omega (arith, f.long, f.high))));
        space = λ k l. get_or-set_other digits i k d 0 (λ q. omega arith) ∙ f.space k (omega arith);
        long = length-set digits i d ∙ f.long;
        low = omega (arith, r.0);
        high = omega (arith, f.high);
        small = r.1;
      }

  -- the last digit found, and the space before it
  pub found_all : rest < 10 → take (11 - (i - 1)) (drop (i - 1) (set digits i (48 + rest))) ≡ field value
  found_all h =
      let full : List ℕ = set digits i (48 + rest) in
      let low : 1 ≤ i = f.low in
      let e : suc (i - 1) ≡ i = omega arith in
      let inside : i < length digits = omega (arith, f.long, f.high) in
      let size : length full ≡ 11 = length-set digits i (48 + rest) ∙ f.long in
      take_all (11 - (i - 1)) (drop (i - 1) full) (omega (arith, length-drop (i - 1) full, size))
      ∙ drop-cons full (i - 1) 0 (omega (arith, size, f.high))
      ∙ ap (λ (x : ℕ). x ∷ drop (suc (i - 1)) full) (get_or-set_other digits i (i - 1) (48 + rest) 0 (λ q. omega arith) ∙ f.space (i - 1) (omega arith))
      ∙ ap (λ (l : List ℕ). 32 ∷ l)
      (ap (λ (n : ℕ). drop n full) e ∙ stored digits i (48 + rest) inside ∙ sym (f.all ∙ ap (λ (l : List ℕ). l ++ drop (suc i) digits) (decimal-one rest h)))
