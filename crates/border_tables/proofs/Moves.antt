-- What engines cite of borders: a move by KMP's rule, by MAX_Shift, or after an occurrence by the longest proper border, goes on, passes over no occurrence, and carries letters
-- that are equal (`Moves`, of the window machine).
-- And what KMP's move pays for the looks of its window (`Paid`, `Pays`). All of it is shown from the rule alone, never from how the table is filled. Assumes nothing.
use mathlib.Core.Path.{◌≡◌, refl, sym, ap, ap₂, subst, ◌∙◌}
use mathlib.Core.Logic.{⊎_elim}
use Prim.Native.Nat.{ℕ, suc, ◌+◌, ◌-◌, ◌*◌, ◌≤◌, ◌<◌}
use native.Mathlib.Omega.{arith}
use native.Mathlib.Nat.{mul-add, suc-mul, le-mul_of_pos_right}
use mathlib.Core.List.{List}
use lib.ListN.{length, get_or}
use Rattle.matching.specs.Letters.{equal_on, reach, looks}
use Rattle.matching.specs.Machine.{at, first_to_last}
use Rattle.matching.specs.Find.{Engine}
use Rattle.matching.proofs.CaseAnalysis.{at_same}
use Rattle.matching.proofs.Occurrences.{Stands}
use Rattle.matching.proofs.Letters.{Meets, reach-le, reach-meets, reach-differs, looks-le, looks-few}
use Rattle.matching.proofs.Machine.{Carries, carries-none, Moves}
use Rattle.matching.proofs.Costs.{Paid, Pays}
use Rattle.matching.proofs.Progress.{Progress}
use Rattle.tables.proofs.Tables.{Reads}
use Rattle.letter_tables.specs.Gaps.{md, mdp}
use Rattle.letter_tables.proofs.Gaps.{md-pos, gap-safe}
use Rattle.border_tables.specs.Kmp.{longest_border, kmp_entry}
use Rattle.border_tables.specs.MaxShift.{max_shift}
use Rattle.border_tables.specs.Moves.{kmp_move, border_move, max_move}
use Rattle.border_tables.proofs.Borders.{Border}
use Rattle.border_tables.proofs.Kmp.{kmp_entry-le, kmp_entry-rule, longest_border-rule}
use Rattle.border_tables.proofs.MaxShift.{shift-cases}

-- where the first r letters of the window are equal, and the next, if there is one, is not

module _ (P T : List ℕ) (s r : ℕ) (r≤ : r ≤ length P) (meets : Meets P T s r) (differs : r < length P → get_or P r 0 ≡ get_or T (s + r) 0 → ⊥) where
  -- an occurrence at k before the next window would make the s + r - k letters from k on a longer border with another letter after it
  kmp-safe : (k : ℕ) → s < k → k < s + suc r - kmp_entry P r → Stands P T k → ⊥
  unfolding Border Meets
  kmp-safe k h l st =
      let b : ℕ = s + r - k in
      (kmp_entry-rule P r r≤).longest b (omega arith) (omega (arith, kmp_entry-le P r))
      (λ i j. st.letters i (omega arith) ∙ at_same T {j = s + (r - b + i)} (omega arith) ∙ sym (meets (r - b + i) (omega arith)))
      (λ m e. differs m (sym e ∙ st.letters b (omega arith) ∙ at_same T (omega arith)))

  -- what is carried is the border, which stands at the end of the letters that were equal
  kmp-meets : Meets P T (s + suc r - kmp_entry P r) (kmp_entry P r - 1)
  unfolding Border Meets
  kmp-meets i h =
      let b : ℕ = kmp_entry P r in
      let le : b ≤ r = kmp_entry-le P r in
      (kmp_entry-rule P r r≤).border (omega arith) i h ∙ meets (r - (b - 1) + i) (omega arith) ∙ at_same T (omega arith)

-- so an engine may move by the rule from a window that is compared first to last, as far as it reaches
pub kmp-moves : (P T : List ℕ) (s q : ℕ) → s + length P ≤ length T → Carries P T s q → Moves P T s (kmp_move P s (reach P T s q))
unfolding kmp_move
kmp-moves P T s q inside c =
    let r : ℕ = reach P T s q in
    let le : r ≤ length P = reach-le P T s q (omega (arith, c.part)) in
    let meets = reach-meets P T s q c.meets in
    let differs = reach-differs P T s q inside in
    record {
      ahead = omega (arith, kmp_entry-le P r);
      skips = kmp-safe P T s r le meets differs;
      hands = record { part = omega (arith, kmp_entry-le P r, c.part); meets = kmp-meets P T s r le meets differs };
    }

-- what a move by the rule pays, at k + 1 a position: since b[j] is below j, all that was spent up to k more than the letters that are equal
pub kmp-paid : (k : ℕ) (P : List ℕ) (s r spent : ℕ) → spent ≤ r + k → Paid k spent s (kmp_move P s r)
unfolding kmp_move
kmp-paid k P s r spent h =
    let b : ℕ = kmp_entry P r in
    let le : b ≤ r = kmp_entry-le P r in
    let d : ℕ = suc r - b in
    let to : suc k * (s + suc r - b) ≡ suc k * s + (k * d + d) = ap (λ x. suc k * x) (omega arith) ∙ mul-add (suc k) s d ∙ ap (λ x. suc k * s + x) (suc-mul k d) in
    omega (arith, to, le-mul_of_pos_right {m = d} k (omega arith))

-- so a window that is compared first to last, with at most one look more than letters are equal, pays for its looks from 2 a position on
pub kmp-pays : (k : ℕ) (P T : List ℕ) (s q : ℕ) → 1 ≤ k → q < length P → Pays k P s q (first_to_last P T s q (kmp_move P s (reach P T s q)))
kmp-pays k P T s q one part =
    let e : ℕ = equal_on P T s q in
    let r≤ : reach P T s q ≤ length P = reach-le P T s q (omega arith) in
    record {
      few = omega (arith, looks-le (length P - q) e (omega arith));
      paid = kmp-paid k P s (reach P T s q) (looks (length P - q) e + q) (omega (arith, looks-few (length P - q) e));
    }

pub kmp-next : (P : List ℕ) (s r b s' q' : ℕ) → b ≡ kmp_entry P r → s' + b ≡ s + suc r → q' ≡ b - 1 → kmp_move P s r ≡ at s' q'
unfolding kmp_move
kmp-next P s r b s' q' e f g = ap₂ at (omega arith) (omega arith)

-- an engine that has moved by the rule is where code goes by the entry b that it reads
pub kmp-goes : {e : Engine} {P T list₀ list : List ℕ} {total compared : ℕ} (s k : ℕ) {b q : ℕ} → Progress e P T list₀ (kmp_move P s k) total compared list → Reads b (kmp_entry P k) 0 k → q ≡ b - 1
    → Progress e P T list₀ (at (s + (k + 1 - b)) q) total compared list
kmp-goes {e} {P} {T} {list₀} {list} {total} {compared} s k {b} {q} p r c =
    subst (λ x. Progress e P T list₀ x total compared list) (kmp-next P s k b (s + (k + 1 - b)) q r.is (omega (arith, r.most)) c) p

-- ---- after an occurrence

-- an occurrence at k before the next window would make the s + m - k letters that both have in common a longer proper border
border-safe : (P T : List ℕ) (s : ℕ) → 1 ≤ length P → Stands P T s → (k : ℕ) → s < k → k < s + (length P - longest_border P) → Stands P T k → ⊥
unfolding Border
border-safe P T s h here k l b there =
    (longest_border-rule P h).above (s + length P - k) (omega arith) (omega arith)
    (λ i j. there.letters i (omega arith) ∙ at_same T {j = s + (length P - (s + length P - k) + i)} (omega arith) ∙ sym (here.letters (length P - (s + length P - k) + i) (omega arith)))

pub border-moves : (P T : List ℕ) (s : ℕ) → 1 ≤ length P → Stands P T s → Moves P T s (border_move P s)
unfolding border_move
border-moves P T s h here =
    record { ahead = omega (arith, (longest_border-rule P h).low); skips = border-safe P T s h here; hands = carries-none P T (s + (length P - longest_border P)) h }

-- ---- by MAX_Shift

pub max-next : (P : List ℕ) (s r d s' q' : ℕ) → d ≡ max_shift P r → s' ≡ s + d → q' ≡ r - d → max_move P s r ≡ at s' q'
unfolding max_move
max-next P s r d s' q' e f g = ap₂ at (omega arith) (omega arith)

-- where it is md, the next window starts past every letter that was equal, and Fact 3 rules out an occurrence before it; where it is KMP's shift, the move is KMP's
pub max-moves : (P T : List ℕ) (s : ℕ) → s + length P ≤ length T → 1 ≤ length P → get_or P (mdp P - 1) 0 ≡ get_or T (s + (mdp P - 1)) 0 → Moves P T s (max_move P s (reach P T s 0))
max-moves P T s inside some equal =
    let r : ℕ = reach P T s 0 in
    let none : Carries P T s 0 = carries-none P T s some in
    ⊎_elim
    (λ w.
    rw (max-next P s r (md P) (s + md P) 0 (sym w.0) (omega arith) (omega (arith, w.1)))
    (record { ahead = omega (arith, md-pos P some); skips = gap-safe P some T s equal; hands = carries-none P T (s + md P) some }))
    (λ w.
    let b : ℕ = kmp_entry P r in
    let d : ℕ = suc r - b in
    let le : b ≤ r = kmp_entry-le P r in
    rw (max-next P s r d (s + d) (b - 1) (sym w) (omega arith) (omega arith) ∙ sym (kmp-next P s r b (s + d) (b - 1) refl (omega arith) (omega arith)))
    (kmp-moves P T s 0 inside none))
    (shift-cases P r)

pub max-goes : {e : Engine} {P T list₀ list : List ℕ} {total compared : ℕ} (s k : ℕ) {d q : ℕ} → Progress e P T list₀ (max_move P s k) total compared list → Reads d (max_shift P k) 1 (length P) → q ≡ k - d
    → Progress e P T list₀ (at (s + d) q) total compared list
max-goes {e} {P} {T} {list₀} {list} {total} {compared} s k {d} {q} p r c = subst (λ x. Progress e P T list₀ x total compared list) (max-next P s k d (s + d) q r.is (omega arith) c) p
