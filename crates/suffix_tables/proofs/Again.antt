-- Suffixes of a pattern that stand again earlier, letter by letter, and what that says of DELTA2's rule. Places count from 0. Assumes nothing.
use mathlib.Core.Path.{◌≡◌, sym, ap, ◌∙◌}
use Prim.Native.Nat.{ℕ, zero, suc, ◌+◌, ◌-◌, ◌≤◌, ◌<◌}
use native.Mathlib.Omega.{arith}
use mathlib.Core.List.{List}
use mathlib.Core.Bool.{true}
use lib.ListN.{length, get_or, take, drop, length-drop, length-take}
use lib.Seq.{get_or-take, get_or-drop, ext_get_or}
use lib.Dec.{ltb}
use borrow.Author.Tests.{ltb-true, ltb-false}
use Rattle.matching.proofs.CaseAnalysis.{by-test, at_same}
use Rattle.matching.proofs.Occurrences.{same_true, eq-same}
use Rattle.suffix_tables.specs.Suffixes.{again}
use Rattle.suffix_tables.specs.Delta2.{shift, delta2_entry}
use Rattle.suffix_tables.specs.Passes.{Again, Behind}
use Rattle.suffix_tables.proofs.Delta2.{Fits, shift_is}

-- no letters are left
pub again-none : (P : List ℕ) (p s : ℕ) → length P ≤ p → Again P p s
again-none P p s h = record { letters = λ i l. absurd (omega arith) }

module _ {P : List ℕ} {p r s : ℕ} (h : p ≤ r) where
  pub again-trans : Again P r p → Again P p s → Again P r s
  again-trans a b = record { letters = λ i l. b.letters i (omega arith) ∙ a.letters i l }

  -- of two suffixes that stand again at one place the shorter stands again at the front of the longer
  pub again-nested : Again P p s → Again P r s → Again P r p
  again-nested a b = record { letters = λ i l. sym (a.letters i (omega arith)) ∙ b.letters i l }

-- one letter less, the letter, and one letter more
module _ {P : List ℕ} {p s : ℕ} where
  pub again-less : Again P p s → Again P (suc p) (suc s)
  again-less a = record { letters = λ i l. at_same P (omega arith) ∙ a.letters (suc i) (omega arith) ∙ at_same P (omega arith) }

  pub again-letter : p < length P → Again P p s → get_or P s 0 ≡ get_or P p 0
  again-letter h a = at_same P (omega arith) ∙ a.letters 0 (omega arith) ∙ at_same P (omega arith)

  pub again-more : Again P (suc p) (suc s) → get_or P s 0 ≡ get_or P p 0 → Again P p s
  again-more a e = record { letters = more }
    where
      more : (i : ℕ) → p + i < length P → get_or P (s + i) 0 ≡ get_or P (p + i) 0
      more zero l = at_same P (omega arith) ∙ e ∙ at_same P (omega arith)
      more (suc i) l = at_same P (omega arith) ∙ a.letters i (omega arith) ∙ at_same P (omega arith)

-- ---- what the test says

module _ {P : List ℕ} {t p : ℕ} (h : p ≤ t) where
  pub again-says : again P t p ≡ true → Again P t p
  unfolding again
  again-says e =
      let same : drop t P ≡ take (length P - t) (drop p P) = same_true _ _ e in
      record { letters = λ i l. sym (sym (get_or-drop t P i 0) ∙ ap (λ (x : List ℕ). get_or x i 0) same ∙ get_or-take (length P - t) (drop p P) i 0 (omega arith) ∙ get_or-drop p P i 0) }

  pub says-again : Again P t p → again P t p ≡ true
  unfolding again
  says-again a =
      eq-same
      (ext_get_or 0 (drop t P) (take (length P - t) (drop p P)) (simp (length-take, length-drop) (omega arith))
      (λ i l.
      let i< : i < length P - t = omega (arith, length-drop t P) in
      get_or-drop t P i 0 ∙ sym (get_or-take (length P - t) (drop p P) i 0 i< ∙ get_or-drop p P i 0 ∙ a.letters i (omega arith))))

-- ---- the rule by places: a shift k up to q has the letters after q stand again after q - k, behind another letter; a longer one has P's end at its front

module _ (P : List ℕ) (q : ℕ) where
  behind-fits : (r : ℕ) → Behind P q r → Fits P (suc q) (q - r)
  behind-fits r b =
      let h : r < q = b.before in
      record {
        again = λ i l m s. at_same P (omega arith) ∙ b.again.letters (i - suc (suc q)) (omega arith) ∙ at_same P (omega arith);
        differs = λ _ e. b.differs (at_same P (omega arith) ∙ e ∙ at_same P (omega arith));
      }

  fits-behind : (k : ℕ) → 1 ≤ k → k ≤ q → Fits P (suc q) k → Behind P q (q - k)
  fits-behind k h l f =
      record {
        before = omega arith;
        again = record { letters = λ i m. at_same P (omega arith) ∙ f.again (suc (suc q + i)) (omega arith) (omega arith) (omega arith) ∙ at_same P (omega arith) };
        differs = λ e. f.differs (omega arith) (at_same P (omega arith) ∙ e ∙ at_same P (omega arith));
      }

  again-fits : (k : ℕ) → q < k → Again P k 0 → Fits P (suc q) k
  again-fits k h a = record { again = λ i l m s. at_same P (omega arith) ∙ a.letters (i - suc k) (omega arith) ∙ at_same P (omega arith); differs = λ l. absurd (omega arith) }

  fits-again : (k : ℕ) → q < k → Fits P (suc q) k → Again P k 0
  fits-again k h f = record { letters = λ i l. at_same P (omega arith) ∙ f.again (suc (k + i)) (omega arith) (omega arith) (omega arith) ∙ at_same P (omega arith) }

  -- the entry by the last place after which they stand again, and where there is none, by the next place after q whose letters stand at P's front
  pub entry-behind : (r : ℕ) → q < length P → Behind P q r → ((s : ℕ) → r < s → Behind P q s → ⊥) → delta2_entry P (suc q) ≡ length P - suc r
  entry-behind r h b none =
      let l : r < q = b.before in
      let e : shift P (suc q) ≡ q - r =
      shift_is P (suc q) (omega arith) (omega arith) (q - r)
      (record { some = omega arith; fit = behind-fits r b; none = λ c s t f. none (q - c) (omega arith) (fits-behind c s (omega arith) f) }) in
      omega arith

  pub entry_whole : (k : ℕ) → q < length P → q < k → Again P k 0 → ((c : ℕ) → q < c → c < k → Again P c 0 → ⊥) → ((s : ℕ) → Behind P q s → ⊥) → delta2_entry P (suc q) ≡ k + length P - suc q
  entry_whole k h l a least none =
      let e : shift P (suc q) ≡ k =
      shift_is P (suc q) (omega arith) (omega arith) k
      (record {
        some = omega arith;
        fit = again-fits k l a;
        none = λ c s t f.
            by-test (λ _. ⊥) (ltb q c)
            (λ x. let m : q < c = ltb-true q c x in least c m t (fits-again c m f))
            (λ x. none (q - c) (fits-behind c s (ltb-false q c x) f));
      }) in
      omega arith
