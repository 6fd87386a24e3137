-- Case analysis on a test that computes. Assumes nothing.
use mathlib.Core.Path.{◌≡◌, refl, sym, ap}
use Prim.Native.Nat.{ℕ, suc, ◌≤◌}
use native.Mathlib.Omega.{arith}
use mathlib.Core.Bool.{Bool, true, false, cond, ◌&&◌, ◌||◌, true≢false, false≢true}
use mathlib.Core.List.{List}
use lib.ListN.{get_or}

-- both answers of a test, each with the equation that says so
pub by-test : (Q : Bool → Type 0) (t : Bool) → (t ≡ true → Q true) → (t ≡ false → Q false) → Q t
by-test Q true f g = f refl
by-test Q false f g = g refl

-- both parts of a conjunction that passes
pub both : (a b : Bool) → a && b ≡ true → (a ≡ true) × (b ≡ true)
both true b e = (refl, e)
both false b e = absurd (false≢true e)

-- the second part of a disjunction that passes though its first does not
pub either : (a b : Bool) → a || b ≡ true → a ≡ false → b ≡ true
either true b e f = absurd (false≢true (sym f))
either false b e f = e

-- neither part of a disjunction that does not pass does
pub neither : (a b : Bool) → a || b ≡ false → (a ≡ false) × (b ≡ false)
neither true b e = absurd (true≢false e)
neither false b e = (refl, e)

-- a choice between two numbers is no larger than both
pub cond-most : (t : Bool) {x y n : ℕ} → x ≤ n → y ≤ n → cond t x y ≤ n
cond-most true h k = h
cond-most false h k = k

-- from number to number, since `omega` takes six facts of the kind "is not" at once: every number is from 0 on, and one from k on that is not k is from k + 1 on
pub any : {n : ℕ} → 0 ≤ n
any = omega arith

pub beyond : (k : ℕ) {n : ℕ} → k ≤ n → (n ≡ k → ⊥) → suc k ≤ n
beyond k h other = omega (arith, other)

-- the same letter at the same place
pub at_same : (l : List ℕ) {i j : ℕ} → i ≡ j → get_or l i 0 ≡ get_or l j 0
at_same l e = ap (λ (x : ℕ). get_or l x 0) e
