-- The occurrences of a range of positions, `occurs_from c P T k`: one range after another, and a range of another text; and so the occurrences in a part of a text
-- (`part-occurrences`), which are those of the whole at the positions where the pattern fits the part. Assumes nothing.
use mathlib.Core.Path.{◌≡◌, refl, sym, ap, ◌∙◌}
use Prim.Native.Nat.{ℕ, zero, suc, ◌+◌, ◌-◌, ◌≤◌, ◌<◌}
use native.Mathlib.Omega.{arith}
use native.Mathlib.Nat.{sub-zero}
use mathlib.Core.Bool.{cond, true≢false}
use mathlib.Core.List.{List, [], ◌∷◌, ◌++◌, append-nil}
use lib.ListN.{length}
use Rattle.matching.specs.Occurrences.{occurs_at, occurs_from, occurrences}
use Rattle.matching.specs.Joined.{moved_up}
use Rattle.matching.proofs.CaseAnalysis.{by-test, at_same}
use Rattle.matching.proofs.Occurrences.{Stands, stands, occurs, no-occurrence, rest, rest-past}

-- ---- one range after another

from-split : (c d : ℕ) (P T : List ℕ) (k : ℕ) → occurs_from (c + d) P T k ≡ occurs_from c P T k ++ occurs_from d P T (k + c)
unfolding occurs_from
from-split zero d P T k =
    let all : 0 + d ≡ d = omega arith in
    let here : k + 0 ≡ k = omega arith in
    rw (all, here)
from-split (suc c) d P T k =
    let more : suc c + d ≡ suc (c + d) = omega arith in
    let on : occurs_from (c + d) P T (suc k) ≡ occurs_from c P T (suc k) ++ occurs_from d P T (k + suc c) = from-split c d P T (suc k) ∙ ap (λ (j : ℕ). occurs_from c P T (suc k) ++ occurs_from d P T j) (omega arith) in
    rw (more, on)
    (by-test
    (λ t. cond t (k ∷ occurs_from c P T (suc k) ++ occurs_from d P T (k + suc c)) (occurs_from c P T (suc k) ++ occurs_from d P T (k + suc c))
    ≡ cond t (k ∷ occurs_from c P T (suc k)) (occurs_from c P T (suc k)) ++ occurs_from d P T (k + suc c))
    (occurs_at P T k) (λ _. refl) (λ _. refl))

-- the same positions of another text, moved up by a
from-moved : (c : ℕ) (P T W : List ℕ) (k a : ℕ) → ((j : ℕ) → k ≤ j → j < k + c → occurs_at P T (j + a) ≡ occurs_at P W j) → occurs_from c P T (k + a) ≡ moved_up a (occurs_from c P W k)
unfolding occurs_from
from-moved zero P T W k a alike = refl
from-moved (suc c) P T W k a alike =
    let next : suc (k + a) ≡ suc k + a = omega arith in
    rw (alike k (omega arith) (omega arith), next, from-moved c P T W (suc k) a (λ j h l. alike j (omega arith) (omega arith)))
    (by-test
    (λ t. cond t ((k + a) ∷ moved_up a (occurs_from c P W (suc k))) (moved_up a (occurs_from c P W (suc k))) ≡ moved_up a (cond t (k ∷ occurs_from c P W (suc k)) (occurs_from c P W (suc k))))
    (occurs_at P W k) (λ _. refl) (λ _. refl))

pub moved_none : (ks : List ℕ) → moved_up 0 ks ≡ ks
moved_none [] = refl
moved_none (k ∷ ks) = let e : k + 0 ≡ k = omega arith in rw (e, moved_none ks)

-- the occurrences from s on: so many positions, and those after them
pub rest-split : (P T : List ℕ) (s c : ℕ) → s + c ≤ suc (length T) → rest P T s ≡ occurs_from c P T s ++ rest P T (s + c)
rest-split P T s c h =
    let all : suc (length T) - s ≡ c + (suc (length T) - (s + c)) = omega arith in
    ap (λ (n : ℕ). occurs_from n P T s) all ∙ from-split c (suc (length T) - (s + c)) P T s

-- so many positions are all where the pattern passes the text's end after them
pub rest_all : (P T : List ℕ) (s c : ℕ) → 1 ≤ length P → s + c ≤ suc (length T) → length T < s + c + length P → rest P T s ≡ occurs_from c P T s
rest_all P T s c some h past = rest-split P T s c h ∙ ap (λ (l : List ℕ). occurs_from c P T s ++ l) (rest-past P T (s + c) some past) ∙ append-nil (occurs_from c P T s)

pub occurrences-rest : (P T : List ℕ) → occurrences P T ≡ rest P T 0
unfolding occurrences
occurrences-rest P T = ap (λ (c : ℕ). occurs_from c P T 0) (sym (sub-zero (suc (length T))))

-- ---- the occurrences in a part of a text

module _ (P T W : List ℕ) (a : ℕ) (some : 1 ≤ length P) (part : Stands W T a) where
  -- the pattern stands in the part W, which stands in T at a, as it does a further on in T
  part_at : (j : ℕ) → j + length P ≤ length W → occurs_at P T (j + a) ≡ occurs_at P W j
  part_at j h =
      by-test (λ t. occurs_at P T (j + a) ≡ t) (occurs_at P W j)
      (λ e.
      let st = stands P W j some e in
      occurs P T (j + a) (record { inside = omega (arith, part.inside); letters = λ i l. st.letters i l ∙ part.letters (j + i) (omega arith) ∙ at_same T (omega arith) }))
      (λ e.
      no-occurrence P T (j + a) some
      (λ st.
      let here : Stands P W j = record { inside = h; letters = λ i l. st.letters i l ∙ at_same T (omega arith) ∙ sym (part.letters (j + i) (omega arith)) } in
      true≢false (sym (occurs P W j here) ∙ e)))

  -- the occurrences in the part, moved up by where it stands, are those of the text at the positions where the pattern fits the part
  pub part-occurrences : moved_up a (occurrences P W) ≡ occurs_from (suc (length W) - length P) P T a
  part-occurrences =
      let c : ℕ = suc (length W) - length P in
      ap (moved_up a) (occurrences-rest P W ∙ rest_all P W 0 c some (omega arith) (omega arith)) ∙ sym (from-moved c P T W 0 a (λ j h l. part_at j (omega arith))) ∙ ap (occurs_from c P T) (omega arith)
