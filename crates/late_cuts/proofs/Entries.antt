-- The entries of an answer one by one: values that are put behind those that were there, and a number that is added to the first ones. Assumes nothing.
use mathlib.Core.Path.{◌≡◌, refl, sym, ap, ◌∙◌}
use Prim.Native.Nat.{ℕ, zero, suc, ◌+◌, ◌<◌}
use native.Mathlib.Omega.{arith}
use native.Mathlib.Numerals.{add-one}
use mathlib.Core.List.{List, [], ◌∷◌, ◌++◌}
use lib.ListN.{length, get_or, set, take, drop}
use Rattle.matching.specs.Received.{received_from}
use Rattle.matching.specs.Joined.{moved_up}
use Rattle.matching.proofs.Received.{received-one}

-- the values that are left, put behind the first `at` entries of the answer, make it what it is to be, and their number is the whole
pub record Putting (whole : List ℕ) (size : ℕ) (at : ℕ) (answer values : List ℕ) : Type 0 where
  pub list : received_from at answer values ≡ whole
  pub total : at + length values ≡ size

pub put_one : {whole : List ℕ} {size at : ℕ} {answer : List ℕ} {x : ℕ} {values : List ℕ} → Putting whole size at answer (x ∷ values) → Putting whole size (at + 1) (set answer at x) values
put_one {at = at} {answer} {x} {values} p =
    record { list = rw (add-one at) (sym (received-one at answer x values) ∙ p.list); total = omega (arith, p.total) }

-- what is left is as it was, and the next entry is changed
pub added_next : (number : ℕ) (list : List ℕ) (i : ℕ) → i < length list → get_or (moved_up number (take i list) ++ drop i list) i 0 ≡ get_or list i 0
added_next number [] i h = absurd (omega arith)
added_next number (x ∷ list) zero h = refl
added_next number (x ∷ list) (suc i) h = added_next number list i (omega arith)

pub added_more : (number : ℕ) (list : List ℕ) (i : ℕ) → i < length list
    → set (moved_up number (take i list) ++ drop i list) i (get_or list i 0 + number) ≡ moved_up number (take (suc i) list) ++ drop (suc i) list
added_more number [] i h = absurd (omega arith)
added_more number (x ∷ list) zero h = refl
added_more number (x ∷ list) (suc i) h = ap (λ (l : List ℕ). (x + number) ∷ l) (added_more number list i (omega arith))
