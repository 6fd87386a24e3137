-- What a run costs, for any engine: at most (k + 1)n - km comparisons where each window pays for its looks at k + 1 a position (`pays-bound`), and c a window where all
-- windows from one on are alike (`run-alike`). An engine shows what one window costs; both sums are done here. Assumes nothing.
use mathlib.Core.Path.{◌≡◌, refl, ap, ◌∙◌}
use Prim.Native.Nat.{ℕ, zero, suc, ◌+◌, ◌-◌, ◌*◌, ◌≤◌}
use native.Mathlib.Omega.{arith}
use native.Mathlib.Nat.{mul-add, suc-mul, mul-le-mul_left}
use mathlib.Core.List.{List}
use lib.ListN.{length}
use lib.Dec.{leb}
use borrow.Author.Tests.{leb-true, leb-false}
use Rattle.matching.specs.Machine.{State, stop, at, Window, Steps, windows, run_from, compared_in}
use Rattle.matching.specs.Find.{Engine, compared}
use Rattle.matching.proofs.CaseAnalysis.{by-test}
use Rattle.matching.proofs.Machine.{Carries, Carried, carries-none, Sound, windows-on, windows-off}

-- ---- a bound

-- what was spent at s is paid by the state that follows: k + 1 for each position passed, and 1 for each letter carried on. After a stop nothing is asked, since no window follows
abbrev pub Paid : ℕ → ℕ → ℕ → State → Type 0
Paid k spent s stop = Unit {0}
Paid k spent s (at s' q') = spent + suc k * s ≤ suc k * s' + q'

-- a window at s that carries q letters looks at none of them again, and its looks and the letters that it carries are paid
pub record Pays (k : ℕ) (P : List ℕ) (s q : ℕ) (v : Window) : Type 0 where
  pub few : v.compared + q ≤ length P
  pub paid : Paid k (v.compared + q) s v.next

module _ {w : Steps} {P T : List ℕ} (sound : Sound w P T) (k : ℕ) (pays : (s q : ℕ) → s + length P ≤ length T → Carries P T s q → Pays k P s q (w P T s q)) where
  -- the comparisons from a state on: at most k + 1 for each position left, less k for each letter of the pattern and 1 for each letter carried
  abbrev Costs : ℕ → State → Type 0
  Costs more stop = more ≡ 0
  Costs more (at s q) = s + length P ≤ length T → more + suc k * s + q + k * length P ≤ suc k * length T

  -- a window inside the text leaves room for k + 1 a letter of the pattern
  room : (s : ℕ) → s + length P ≤ length T → suc k * s + (k * length P + length P) ≤ suc k * length T
  room s inside =
      let wide = mul-le-mul_left {m = s + length P} {n = length T} (suc k) inside in
      omega (arith, wide, mul-add (suc k) s (length P), suc-mul k (length P))

  -- one window and what follows it
  one : (f s q more : ℕ) (x : State) → s + length P ≤ length T → more + q ≤ length P → Paid k (more + q) s x → Costs (compared_in (windows f w P T x)) x
      → more + compared_in (windows f w P T x) + suc k * s + q + k * length P ≤ suc k * length T
  unfolding compared_in
  one f s q more stop inside few paid c = omega (arith, room s inside)
  one f s q more (at s' q') inside few paid c =
      by-test (λ _. more + compared_in (windows f w P T (at s' q')) + suc k * s + q + k * length P ≤ suc k * length T) (leb (s' + length P) (length T))
      (λ e. omega (arith, c (leb-true (s' + length P) (length T) e)))
      (λ e. rw (windows-off f w P T s' q' (leb-false (s' + length P) (length T) e)) (omega (arith, room s inside)))

  costs : (f : ℕ) (x : State) → Carried P T x → Costs (compared_in (windows f w P T x)) x
  unfolding compared_in windows
  costs zero stop c = refl
  costs zero (at s q) c = λ h. omega (arith, c.part, room s h)
  costs (suc f) stop c = refl
  costs (suc f) (at s q) c =
      λ h.
      let p = pays s q h c in
      rw (windows-on f w P T s q h)
      (one f s q (w P T s q).compared (w P T s q).next h p.few p.paid (costs f (w P T s q).next (sound.right s q h c).moves.hands))

-- an engine whose windows pay k + 1 a position makes at most (k + 1)n - km comparisons
pub pays-bound : (e : Engine) {P T : List ℕ} → Sound e.steps P T → (k : ℕ) → ((s q : ℕ) → s + length P ≤ length T → Carries P T s q → Pays k P s q (e.steps P T s q)) → length P ≤ length T
    → compared e P T ≤ suc k * length T - k * length P
unfolding compared run_from
pays-bound e {P} {T} sound k pays h = omega (arith, costs sound k pays (suc (length T)) (at 0 0) (carries-none P T 0 sound.some) (omega arith))

-- ---- windows that are alike

module _ (w : Steps) (P T : List ℕ) (c q : ℕ) (each : (s : ℕ) → s + length P ≤ length T → ((w P T s q).compared ≡ c) × ((w P T s q).next ≡ at (s + 1) q)) where
  -- d windows are left
  left : (d f s : ℕ) → s + length P + d ≡ length T + 1 → d ≤ f → compared_in (windows f w P T (at s q)) ≡ c * d
  unfolding compared_in
  left zero f s e h = ap compared_in (windows-off f w P T s q (omega arith)) ∙ omega arith
  left (suc d) zero s e h = absurd (omega arith)
  left (suc d) (suc f) s e h =
      let v = each s (omega arith) in
      rw (windows-on f w P T s q (omega arith), v.0, v.1) (omega (arith, left d f (s + 1) (omega arith) (omega arith)))

  -- every window that carries q letters makes c comparisons and moves on by 1, carrying q again: d windows make c times d
  pub run-alike : (d s : ℕ) → s + length P + d ≡ length T + 1 → compared_in (run_from w P T (at s q)) ≡ c * d
  unfolding run_from
  run-alike d s e = left d (suc (length T)) s e (omega arith)
