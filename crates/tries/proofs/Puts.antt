-- The laws of a run of entries by a rule. Assumes nothing.
use mathlib.Core.Path.{◌≡◌, refl, ◌∙◌}
use Prim.Native.Nat.{ℕ, ◌+◌, ◌≤◌, ◌<◌}
use native.Mathlib.Omega.{arith}
use mathlib.Core.List.{List}
use lib.ListN.{length, get_or, set, length-set}
use lib.Seq.{get_or-set_same, get_or-set_other}
use lib.Dec.{eqb}
use borrow.Author.Tests.{eqb-true, eqb-false}
use Rattle.matching.proofs.CaseAnalysis.{by-test}
use Rattle.tries.specs.Rows.{Put}

pub put-none : (t : List ℕ) (to : ℕ) (rule : ℕ → ℕ) → Put t t to 0 rule
put-none t to rule = record { long = refl; within = λ k h. absurd (omega arith); outside = λ i _. refl }

pub put_next : {t t' : List ℕ} {to n : ℕ} {rule : ℕ → ℕ} → Put t t' to n rule → to + n < length t → (v : ℕ) → v ≡ rule n → Put t (set t' (to + n) v) to (n + 1) rule
put_next {t} {t'} {to} {n} {rule} p h v e =
    record {
      long = length-set t' (to + n) v ∙ p.long;
      within = λ k l.
          by-test (λ _. get_or (set t' (to + n) v) (to + k) 0 ≡ rule k) (eqb k n)
          (λ d. rw (eqb-true k n d) (get_or-set_same t' (to + n) v 0 (omega (arith, p.long)) ∙ e))
          (λ d. get_or-set_other t' (to + n) (to + k) v 0 (λ z. eqb-false k n d (omega arith)) ∙ p.within k (omega (arith, eqb-false k n d)));
      outside = λ i o. get_or-set_other t' (to + n) i v 0 (λ z. o (omega arith) (omega arith)) ∙ p.outside i (λ a b. o (omega arith) (omega arith));
    }

pub put_all : {t t' : List ℕ} {to k n : ℕ} (rule : ℕ → ℕ) → Put t t' to k rule → n ≤ k → k ≤ n → Put t t' to n rule
put_all {t} {t'} {to} {k} {n} rule p a b = let e : k ≡ n = omega arith in rw e at p

-- the same rule in other words, at the same place
pub put_as : {t t' : List ℕ} {to to' n : ℕ} (f g : ℕ → ℕ) → to ≡ to' → ((k : ℕ) → k < n → f k ≡ g k) → Put t t' to n f → Put t t' to' n g
put_as {t} {t'} {to} {to'} {n} f g e same p =
    rw (← e) (record { long = p.long; within = λ k h. p.within k h ∙ same k h; outside = p.outside })
