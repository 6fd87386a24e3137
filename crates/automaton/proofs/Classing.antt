-- The classes of the letters while they are made. Assumes nothing.
use Rattle.std.proofs.Common.{◌≡◌, ℕ, ◌+◌, ◌*◌, ◌<◌, ◌≤◌, List, get_or, subst, arith}
use Rattle.tries.specs.Rows.{classes_from, Put, Lettered, Classed}
use Rattle.tries.proofs.Classing.{Classify, classed-none, classed-next, classed-whole}

-- the classes were empty, and the letters of the states below x have theirs
pub record Classing (e t₀ t : List ℕ) (x w : ℕ) : Type 0 where
  pub emptied : Put e t₀ classes_from 256 (λ k. 0)
  pub classed : Classed t₀ t x w

pub classing_first : {e t : List ℕ} → Put e t 32776 256 (λ k. 0) → Classing e t t 1 1
classing_first p = record { emptied = p; classed = classed-none p }

pub classing_next : {e t₀ t t' : List ℕ} {n x w w' : ℕ} → (1 ≤ n) × Lettered e n → Classing e t₀ t x w → 1 ≤ x → x < n → Classify t t' (get_or t (8 * x) 0) w w' → Classing e t₀ t' (x + 1) w'
classing_next {e} {t₀} {t} {t'} {n} {x} {w} {w'} (_, l) m above h r =
    let same : get_or t (8 * x) 0 ≡ get_or t₀ (8 * x) 0 = m.classed.kept (8 * x) (λ a b. omega (arith, l.few)) in
    let byte : get_or t₀ (8 * x) 0 < 256 = omega (arith, m.emptied.outside (8 * x) (λ a b. omega (arith, l.few)), l.bytes x above h) in
    record { emptied = m.emptied; classed = classed-next m.classed above (omega (arith, m.emptied.long, l.room)) byte (rw same at r) }

pub classing_done : {e t₀ t : List ℕ} {n x w : ℕ} → (1 ≤ n) × Lettered e n → Classing e t₀ t x w → n ≤ x → (1 ≤ n → x ≤ n) → Classed e t n w
classing_done {t₀ = t₀} {t = t} {n = n} {x = x} {w = w} (some, l) m a b =
    let z : x ≡ n = let k = b some in omega arith in
    classed-whole l.few m.emptied (subst (λ (j : ℕ). Classed t₀ t j w) z m.classed)
