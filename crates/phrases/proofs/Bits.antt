-- The set bits of a number: bit by bit, and the lowest one found and cleared. Assumes nothing.
use mathlib.Core.Path.{◌≡◌, refl, sym, ap, ap₂, ◌∙◌}
use Prim.Native.Nat.{ℕ, zero, suc, ◌+◌, ◌-◌, ◌*◌, ◌/◌, ◌%◌, ◌^◌, ◌≤◌, ◌<◌}
use native.Mathlib.Omega.{arith}
use native.Mathlib.Nat.{pow-suc}
use mathlib.Core.Bool.{true, false, ◌&&◌, not, and-true, and-false}
use lib.Dec.{eqb, ltb, eqb-suc-suc}
use lib.Bits.{bit_and, and_step, and_self}
use lib.Pow.{shr-shr, pow_mono}
use lib.Count.{count_trailing_zeros, under}
use borrow.Author.Tests.{eqb-true, eqb-false, eq-eqb, ne_eqb, ltb-true, ltb-false}
use Rattle.matching.proofs.CaseAnalysis.{by-test}
use Rattle.phrases.specs.Phrases.{is_set}

-- bit k + 1 is bit k of the half
pub set-suc : (n k : ℕ) → is_set n (suc k) ≡ is_set (n / 2) k
set-suc n k = let e : suc k ≡ 1 + k = omega arith in ap (λ (x : ℕ). eqb (n / 2 ^ x % 2) 1) e ∙ ap (λ (x : ℕ). eqb (x % 2) 1) (sym (shr-shr n 1 k))

pub set-none : (k : ℕ) → is_set 0 k ≡ false
set-none zero = refl
set-none (suc k) = set-suc 0 k ∙ set-none k

-- the lowest set bit q of n: it is set and none below it is, and n - 2 ^ q, which the machine finds as n & (n - 1), has all the others
pub record Lowest (n q : ℕ) : Type 0 where
  pub within : 2 ^ q ≤ n
  pub set : is_set n q ≡ true
  pub cleared : bit_and n (n - 1) ≡ n - 2 ^ q
  pub others : (k : ℕ) → is_set (n - 2 ^ q) k ≡ is_set n k && not (eqb k q)
  pub none : (k : ℕ) → k < q → is_set n k ≡ false

lowest-odd : (n : ℕ) → n % 2 ≡ 1 → Lowest n 0
lowest-odd n z =
    let a : n / 2 ≡ (n - 1) / 2 = omega arith in
    let b : (n - 1) % 2 ≡ 0 = omega arith in
    let one : n - 1 ≡ n - 2 ^ 0 = refl in
    record {
      within = omega arith;
      set = eq-eqb (n / 1 % 2) 1 (omega arith);
      cleared = and_step n (n - 1) ∙ rw (← a, z, b, and_self (n / 2)) (omega arith);
      others = λ k. at k;
      none = λ k l. absurd (omega arith);
    }
  where
    at : (k : ℕ) → is_set (n - 1) k ≡ is_set n k && not (eqb k 0)
    at zero = ne_eqb ((n - 1) / 1 % 2) 1 (λ (e : (n - 1) / 1 % 2 ≡ 1). omega arith) ∙ sym (and-false (is_set n 0))
    at (suc k) =
        let a : (n - 1) / 2 ≡ n / 2 = omega arith in
        set-suc (n - 1) k ∙ ap (λ m. is_set m k) a ∙ sym (set-suc n k) ∙ sym (and-true (is_set n (suc k))) ∙ ap (λ b. is_set n (suc k) && not b) (sym (ne_eqb (suc k) 0 (λ e. omega arith)))

lowest-even : (n q : ℕ) → n % 2 ≡ 0 → 1 ≤ n → Lowest (n / 2) q → Lowest n (suc q)
lowest-even n q z h l =
    let p : 2 ^ suc q ≡ 2 ^ q * 2 = pow-suc 2 q in
    let w : 2 ^ q ≤ n / 2 = l.within in
    let half : (n - 2 ^ suc q) / 2 ≡ n / 2 - 2 ^ q = omega arith in
    let even : (n - 2 ^ suc q) % 2 ≡ 0 = omega arith in
    let a : (n - 1) / 2 ≡ n / 2 - 1 = omega arith in
    let b : (n - 1) % 2 ≡ 1 = omega arith in
    record {
      within = omega arith;
      set = set-suc n q ∙ l.set;
      cleared = and_step n (n - 1) ∙ rw (a, b, z, l.cleared) (omega arith);
      others = at half even;
      none = λ k. below k;
    }
  where
    below : (k : ℕ) → k < suc q → is_set n k ≡ false
    below zero h = ne_eqb (n / 1 % 2) 1 (λ (e : n / 1 % 2 ≡ 1). omega arith)
    below (suc k) h = set-suc n k ∙ l.none k (omega arith)

    at : (n - 2 ^ suc q) / 2 ≡ n / 2 - 2 ^ q → (n - 2 ^ suc q) % 2 ≡ 0 → (k : ℕ) → is_set (n - 2 ^ suc q) k ≡ is_set n k && not (eqb k (suc q))
    at half even zero =
        ne_eqb ((n - 2 ^ suc q) / 1 % 2) 1 (λ (e : (n - 2 ^ suc q) / 1 % 2 ≡ 1). omega arith)
        ∙ ap (λ b. b && not (eqb 0 (suc q))) (sym (ne_eqb (n / 1 % 2) 1 (λ (e : n / 1 % 2 ≡ 1). omega arith)))
    at half even (suc k) =
        set-suc (n - 2 ^ suc q) k ∙ ap (λ m. is_set m k) half ∙ l.others k ∙ ap₂ (λ a b. a && not b) (sym (set-suc n k)) (sym (eqb-suc-suc k q))

pub lowest : (d n : ℕ) → 1 ≤ n → n < 2 ^ d → Lowest n (count_trailing_zeros d n)
unfolding count_trailing_zeros
lowest zero n h l = absurd (omega arith)
lowest (suc d) n h l =
    by-test (λ _. Lowest n (under (n % 2) (count_trailing_zeros d (n / 2)))) (eqb (n % 2) 0)
    (λ e.
    let z : n % 2 ≡ 0 = eqb-true (n % 2) 0 e in
    rw z (lowest-even n (count_trailing_zeros d (n / 2)) z h (lowest d (n / 2) (omega arith) (omega (arith, pow-suc 2 d)))))
    (λ e. let z : n % 2 ≡ 1 = omega (arith, eqb-false (n % 2) 0 e) in rw z (lowest-odd n z))

-- it is below d where the number is below 2 ^ d
pub lowest-below : {n q : ℕ} (d : ℕ) → Lowest n q → n < 2 ^ d → q < d
lowest-below {n} {q} d l h =
    by-test (λ _. q < d) (ltb q d) (λ e. ltb-true q d e) (λ e. let k : d ≤ q = ltb-false q d e in absurd (omega (arith, l.within, pow_mono k)))
