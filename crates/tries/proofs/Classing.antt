-- The laws of the letters' classes. Assumes nothing.
use mathlib.Core.Path.{◌≡◌, refl, sym, ap, ◌∙◌}
use Prim.Native.Nat.{ℕ, ◌+◌, ◌*◌, ◌≤◌, ◌<◌}
use native.Mathlib.Omega.{arith}
use mathlib.Core.Bool.{cond}
use mathlib.Core.List.{List}
use lib.ListN.{length, get_or, set, length-set}
use lib.Seq.{get_or-set_same, get_or-set_other}
use lib.Dec.{eqb, ltb}
use borrow.Author.Tests.{eqb-true, eqb-false, ltb-true, ltb-false}
use Rattle.matching.proofs.CaseAnalysis.{by-test}
use Rattle.tries.specs.Rows.{class_at, Put, Classed}

-- what `classify` does
abbrev pub Classify : List ℕ → List ℕ → ℕ → ℕ → ℕ → Type 0
Classify t t' c w r = (1 ≤ class_at t c → (t' ≡ t) × (r ≡ w)) × (class_at t c ≡ 0 → (t' ≡ set t (32776 + c) w) × (r ≡ w + 1))

pub classed-none : {e t : List ℕ} → Put e t 32776 256 (λ k. 0) → Classed t t 1 1
classed-none {e} {t} p =
    record {
      long = refl;
      kept = λ i _. refl;
      some = omega arith;
      few = omega arith;
      below = λ c h. omega (arith, p.within c h);
      apart = λ c d h k a. absurd (omega (arith, p.within c h));
      named = λ x a h. absurd (omega arith);
    }

class-set : (t : List ℕ) (c w d : ℕ) → 32776 + c < length t → class_at (set t (32776 + c) w) d ≡ cond (eqb d c) w (class_at t d)
class-set t c w d h =
    by-test (λ b. class_at (set t (32776 + c) w) d ≡ cond b w (class_at t d)) (eqb d c)
    (λ e. rw (eqb-true d c e) (get_or-set_same t (32776 + c) w 0 h))
    (λ e. get_or-set_other t (32776 + c) (32776 + d) w 0 (λ z. eqb-false d c e (omega arith)))

module _ {t₀ t : List ℕ} {x w : ℕ} (m : Classed t₀ t x w) (above : 1 ≤ x) (room : 33032 ≤ length t₀) (byte : get_or t₀ (8 * x) 0 < 256) where
  had : 1 ≤ class_at t (get_or t₀ (8 * x) 0) → Classed t₀ t (x + 1) w
  had h =
      record {
        long = m.long;
        kept = m.kept;
        some = m.some;
        few = omega (arith, m.few);
        below = m.below;
        apart = m.apart;
        named = λ y a l. by-test (λ _. 1 ≤ class_at t (get_or t₀ (8 * y) 0)) (eqb y x) (λ e. rw (eqb-true y x e) h) (λ e. m.named y a (omega (arith, eqb-false y x e)));
      }

  new : Classed t₀ (set t (32776 + get_or t₀ (8 * x) 0) w) (x + 1) (w + 1)
  new =
      let c : ℕ = get_or t₀ (8 * x) 0 in
      let t₁ : List ℕ = set t (32776 + c) w in
      let at : (d : ℕ) → class_at t₁ d ≡ cond (eqb d c) w (class_at t d) = λ d. class-set t c w d (omega (arith, m.long)) in
      record {
        long = length-set t (32776 + c) w ∙ m.long;
        kept = λ i o. get_or-set_other t (32776 + c) i w 0 (λ z. o (omega arith) (omega arith)) ∙ m.kept i o;
        some = omega arith;
        few = omega (arith, m.few);
        below = λ d h. by-test (λ b. class_at t₁ d ≡ cond b w (class_at t d) → class_at t₁ d < w + 1) (eqb d c) (λ _ z. omega arith) (λ _ z. omega (arith, m.below d h)) (at d);
        apart = λ d e h k a f.
            by-test (λ b. eqb d c ≡ b → class_at t₁ d ≡ cond b w (class_at t d) → d ≡ e) (eqb d c)
            (λ b _ y.
            by-test (λ b'. class_at t₁ e ≡ cond b' w (class_at t e) → d ≡ e) (eqb e c)
            (λ b' _. eqb-true d c b ∙ sym (eqb-true e c b')) (λ _ z. absurd (omega (arith, m.below e k))) (at e))
            (λ _ _ y.
            by-test (λ b'. class_at t₁ e ≡ cond b' w (class_at t e) → d ≡ e) (eqb e c)
            (λ _ z. absurd (omega (arith, m.below d h))) (λ _ z. m.apart d e h k (omega arith) (sym y ∙ f ∙ z)) (at e))
            refl (at d);
        named = λ y a l.
            let d : ℕ = get_or t₀ (8 * y) 0 in
            by-test (λ b. eqb d c ≡ b → class_at t₁ d ≡ cond b w (class_at t d) → 1 ≤ class_at t₁ d) (eqb d c)
            (λ _ _ z. omega (arith, m.some))
            (λ b _ z.
            let other : y ≡ x → ⊥ = λ e. eqb-false d c b (ap (λ (i : ℕ). get_or t₀ (8 * i) 0) e) in
            omega (arith, m.named y a (by-test (λ _. y < x) (eqb y x) (λ e. absurd (other (eqb-true y x e))) (λ e. omega (arith, eqb-false y x e)))))
            refl (at d);
      }

  pub classed-next : {t' : List ℕ} {w' : ℕ} → Classify t t' (get_or t₀ (8 * x) 0) w w' → Classed t₀ t' (x + 1) w'
  classed-next {t'} {w'} r =
      by-test (λ _. Classed t₀ t' (x + 1) w') (ltb 0 (class_at t (get_or t₀ (8 * x) 0)))
      (λ e. let h = ltb-true 0 _ e in let z = r.0 h in rw (z.0, z.1) (had h))
      (λ e. let z = r.1 (none (ltb-false 0 _ e)) in rw (z.0, z.1) new)
    where
      none : {n : ℕ} → n ≤ 0 → n ≡ 0
      none h = omega arith

-- the classes cleared, and then made
pub classed-whole : {e t₀ t : List ℕ} {n w : ℕ} → n ≤ 4097 → Put e t₀ 32776 256 (λ k. 0) → Classed t₀ t n w → Classed e t n w
classed-whole {e} {t₀} {t} {n} {w} few p m =
    record {
      long = m.long ∙ p.long;
      kept = λ i o. m.kept i o ∙ p.outside i (λ a b. o a (omega arith));
      some = m.some;
      few = m.few;
      below = m.below;
      apart = m.apart;
      named = λ x a h.
          let same : get_or t₀ (8 * x) 0 ≡ get_or e (8 * x) 0 = p.outside (8 * x) (λ b c. omega arith) in
          rw same at (m.named x a h);
    }
