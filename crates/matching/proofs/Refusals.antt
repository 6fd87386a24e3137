-- A table of refusals: the row that is met after those that were passed (`met`), none where all were passed (`none-met`, `all-passed`), the largest number (`met-most`), the only one from some number on (`met-gap`), and a number that is none of them (`met-not`). Assumes nothing.
use mathlib.Core.Path.{◌≡◌, refl}
use Prim.Native.Nat.{ℕ, ◌≤◌}
use native.Mathlib.Omega.{arith}
use mathlib.Core.Bool.{Bool, true, false, cond, not, ◌&&◌, ◌||◌}
use mathlib.Core.List.{List, [], ◌∷◌, ◌++◌}
use lib.Dec.{eqb, ltb, leb}
use borrow.Author.Tests.{leb-true, eqb-true, eqb-false, le-ltb, not-true}
use Rattle.matching.specs.Refusals.{Test, first_met}
use Rattle.matching.proofs.CaseAnalysis.{by-test, both, either, cond-most}

-- every row was passed
unfoldable pub Passed : List Test → Type 0
Passed [] = Unit {0}
Passed (t ∷ ts) = (t.0 ≡ false) × Passed ts

pub met : (before : List Test) (t : Test) (later : List Test) → Passed before → t.0 ≡ true → first_met (before ++ t ∷ later) ≡ t.1
unfolding first_met Passed
met [] t later p e = rw e
met (b ∷ before) t later p e = rw p.0 (met before t later p.1 e)

-- a row that is met is met whatever rows come later
pub met-before : (before later : List Test) → (first_met before ≡ 0 → ⊥) → first_met (before ++ later) ≡ first_met before
unfolding first_met
met-before [] later some = absurd (some refl)
met-before (b ∷ before) later some =
    by-test (λ t. (cond t b.1 (first_met before) ≡ 0 → ⊥) → cond t b.1 (first_met (before ++ later)) ≡ cond t b.1 (first_met before)) b.0
    (λ _ _. refl) (λ _ z. met-before before later z) some

-- and rows that were passed play no part
pub met-after : (before later : List Test) → Passed before → first_met (before ++ later) ≡ first_met later
unfolding first_met Passed
met-after [] later p = refl
met-after (b ∷ before) later p = rw p.0 (met-after before later p.1)

pub none-met : (ts : List Test) → Passed ts → first_met ts ≡ 0
unfolding first_met Passed
none-met [] p = refl
none-met (t ∷ ts) p = rw p.0 (none-met ts p.1)

-- and back, where the numbers are from 1 to `most`; a test that computes on a table
unfoldable pub numbers_to : ℕ → List Test → Bool
numbers_to most [] = true
numbers_to most (t ∷ ts) = (leb 1 t.1 && leb t.1 most) && numbers_to most ts

pub all-passed : (most : ℕ) (ts : List Test) → numbers_to most ts ≡ true → first_met ts ≡ 0 → Passed ts
unfolding first_met Passed numbers_to
all-passed most [] w e = tt
all-passed most (t ∷ ts) w e =
    let w' = both (leb 1 t.1 && leb t.1 most) (numbers_to most ts) w in
    let here = both (leb 1 t.1) (leb t.1 most) w'.0 in
    by-test (λ b. cond b t.1 (first_met ts) ≡ 0 → (b ≡ false) × Passed ts) t.0
    (λ _ z. absurd (omega (arith, leb-true 1 t.1 here.0)))
    (λ _ z. (refl, all-passed most ts w'.1 z))
    e

-- the number is at most `most`
pub met-most : (most : ℕ) (ts : List Test) → numbers_to most ts ≡ true → first_met ts ≤ most
unfolding first_met numbers_to
met-most most [] w = omega arith
met-most most (t ∷ ts) w =
    let w' = both (leb 1 t.1 && leb t.1 most) (numbers_to most ts) w in
    let here = both (leb 1 t.1) (leb t.1 most) w'.0 in
    cond-most t.0 (leb-true t.1 most here.1) (met-most most ts w'.1)

-- a number from `low` on is `high`, where every row's number is below the one or is the other; a test that computes on a table
unfoldable pub gapped : ℕ → ℕ → List Test → Bool
gapped low high [] = true
gapped low high (t ∷ ts) = (ltb t.1 low || eqb t.1 high) && gapped low high ts

pub met-gap : (low high : ℕ) (ts : List Test) → gapped low high ts ≡ true → 1 ≤ low → low ≤ first_met ts → first_met ts ≡ high
unfolding first_met gapped
met-gap low high [] w some h = absurd (omega arith)
met-gap low high (t ∷ ts) w some h =
    let w' = both (ltb t.1 low || eqb t.1 high) (gapped low high ts) w in
    by-test (λ b. low ≤ cond b t.1 (first_met ts) → cond b t.1 (first_met ts) ≡ high) t.0
    (λ _ m. eqb-true t.1 high (either (ltb t.1 low) (eqb t.1 high) w'.0 (le-ltb t.1 low m)))
    (λ _ m. met-gap low high ts w'.1 some m)
    h

-- a number that no row has is not met; a test that computes on a table
unfoldable pub without : ℕ → List Test → Bool
without n [] = true
without n (t ∷ ts) = not (eqb t.1 n) && without n ts

pub met-not : (n : ℕ) (ts : List Test) → without n ts ≡ true → (n ≡ 0 → ⊥) → first_met ts ≡ n → ⊥
unfolding first_met without
met-not n [] w some e = some (omega arith)
met-not n (t ∷ ts) w some e =
    let w' = both (not (eqb t.1 n)) (without n ts) w in
    by-test (λ b. cond b t.1 (first_met ts) ≡ n → ⊥) t.0 (λ _. eqb-false t.1 n (not-true (eqb t.1 n) w'.0)) (λ _. met-not n ts w'.1 some) e
