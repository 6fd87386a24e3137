-- The laws of rows: a step that ends at a row. Assumes nothing.
use mathlib.Core.Path.{◌≡◌, refl, sym, ap, ◌∙◌}
use Prim.Native.Nat.{ℕ, ◌+◌, ◌*◌, ◌≤◌, ◌<◌}
use native.Mathlib.Omega.{arith}
use native.Mathlib.Nat.{mul-suc, mul-le-mul_left}
use mathlib.Core.List.{List, [], ◌∷◌, ◌++◌}
use Rattle.phrases.specs.States.{next, state}
use Rattle.tries.specs.Tables.{fail_at, name, LookedUp, Linked}
use Rattle.tries.specs.Rows.{class_at, row_at, Rows, Leads}
use Rattle.phrases.proofs.States.{state-known, next-fail}
use Rattle.tries.proofs.Links.{long-name, unknown}

-- a row stands before those of later states
pub row_before : (w f s : ℕ) → f < s → w * f + w ≤ w * s
row_before w f s h = omega (arith, mul-suc w f, mul-le-mul_left w h)

-- an entry of a row stands in the table
pub row_inside : (w count s k : ℕ) → s < count → k < w → w * s + k < w * count
row_inside w count s k h l = omega (arith, row_before w s count h)

-- the step by letter c from state `at` is that from s
pub record Falling (ps names : List (List ℕ)) (done s c at : ℕ) : Type 0 where
  pub inside : at < done
  pub same : next ps (name names at) c ≡ next ps (name names s) c

module _ {ps names : List (List ℕ)} {done : ℕ} {t : List ℕ} {s c : ℕ} (l : Linked ps names done t) where
  pub fall-start : s < done → Falling ps names done s c s
  fall-start h = record { inside = h; same = refl }

  pub fall-less : {at : ℕ} → Falling ps names done s c at → 1 ≤ at → fail_at t at < at
  fall-less {at} f h = l.falls at h f.inside

  pub fall-found : {at x : ℕ} → Falling ps names done s c at → LookedUp names at c x → 1 ≤ x → Leads ps names s c x
  fall-found {at} {x} f u h = record { inside = u.inside; is = sym (state-known ps (name names x) (l.front x u.inside)) ∙ ap (state ps) (u.found h) ∙ f.same }

  pub fall-on : {at x : ℕ} → Falling ps names done s c at → 1 ≤ at → LookedUp names at c x → x ≤ 0 → Falling ps names done s c (fail_at t at)
  fall-on {at} f h u z =
      record {
        inside = omega (arith, fall-less f h, f.inside);
        same =
            ap (λ n. next ps n c) (l.link at h f.inside)
            ∙ sym (next-fail ps (name names at) c (long-name l at h (omega (arith, f.inside, l.most))) (unknown l (name names at ++ (c ∷ [])) (u.none (omega arith)))) ∙ f.same;
      }

  pub fall-row : {w count at : ℕ} → Rows ps names w count t → Falling ps names done s c at → at < count → c < 256 → Leads ps names s c (row_at t w at (class_at t c))
  fall-row {w} {count} {at} r f h b = let e = r.row at c h b in record { inside = e.inside; is = e.is ∙ f.same }
