-- Document 02, (xii), exactly: for letters a and b that differ and every m from 2 to n, m - 1 letters a and a b cost exactly 2n - m comparisons in n letters a (`aaab-costs`),
-- and a find of it that is not refused returns that number, whatever the lent memory and however short the list (`aaab-found` of `ExactFound`). Every window has m - 1 letters equal and the
-- last one unequal, and moves on by 1 carrying m - 2: the first makes m looks, each later one 2. For m = 1 this is false from n = 2 on: nothing is carried, and a pattern of one letter
-- costs n in every text of n letters (`one-costs`). Assumes nothing.
use mathlib.Core.Path.{◌≡◌, refl, sym, ap, ◌∙◌}
use Prim.Native.Nat.{ℕ, ◌+◌, ◌-◌, ◌*◌, ◌≤◌, ◌<◌}
use native.Mathlib.Omega.{arith}
use mathlib.Core.List.{List, [], ◌∷◌, ◌++◌}
use lib.ListN.{length, get_or, replicate, length-append, length-replicate, get_or-append, get_or-replicate}
use lib.Seq.{get_or_at}
use lib.Dec.{ltb}
use borrow.Author.Tests.{ltb-true, ltb-false}
use Rattle.matching.specs.Occurrences.{same}
use Rattle.matching.specs.Letters.{equal_on, reach}
use Rattle.matching.specs.Machine.{at, run_from, compared_in}
use Rattle.matching.specs.Find.{compared}
use Rattle.matching.proofs.CaseAnalysis.{by-test}
use Rattle.matching.proofs.Letters.{Meets, reach-le, reach-is, looks-part, looks-all}
use Rattle.matching.proofs.Machine.{carries-none, run_on}
use Rattle.matching.proofs.Costs.{run-alike}
use Rattle.tables.specs.Tables.{largest}
use Rattle.border_tables.specs.Kmp.{border, strong, kmp_entry}
use Rattle.border_tables.proofs.Borders.{Border}
use Rattle.border_tables.proofs.Kmp.{kmp_entry-le, kmp_entry-is}
use Rattle.border_tables.proofs.Moves.{kmp-next}
use Rattle.kmp.specs.Kmp.{window, kmp}
use Rattle.kmp.proofs.Sound.{sound}

-- m - 1 letters a and a b
abbrev pub aaab : ℕ → ℕ → ℕ → List ℕ
aaab m a b = replicate (m - 1) a ++ b ∷ []

module _ (a b : ℕ) (differ : a ≡ b → ⊥) (m n : ℕ) (two : 2 ≤ m) (fits : m ≤ n) where
  abbrev P : List ℕ
  P = aaab m a b

  abbrev T : List ℕ
  T = replicate n a

  size : length P ≡ m
  size = length-append (replicate (m - 1) a) (b ∷ []) ∙ omega (arith, length-replicate (m - 1) a)

  long : length T ≡ n
  long = length-replicate n a

  front : (i : ℕ) → i < m - 1 → get_or P i 0 ≡ a
  front i h = get_or-append (replicate (m - 1) a) (b ∷ []) 0 i (omega (arith, length-replicate (m - 1) a)) ∙ get_or-replicate (m - 1) i a 0 h

  last : get_or P (m - 1) 0 ≡ b
  last = get_or_at (replicate (m - 1) a) b [] 0 (m - 1) (length-replicate (m - 1) a)

  letter : (i : ℕ) → i < n → get_or T i 0 ≡ a
  letter i h = get_or-replicate n i a 0 h

  -- b[m] is m - 1: m - 2 letters a are a border of m - 1, and an a comes after them where P has its b
  entry : kmp_entry P (m - 1) ≡ m - 1
  unfolding Border
  entry =
      kmp_entry-is P (m - 1) (m - 1) (omega (arith, size))
      (record {
        below = omega arith;
        border = λ _ i h. front i (omega arith) ∙ sym (front (m - 1 - (m - 1 - 1) + i) (omega arith));
        differs = λ h _ e. differ (sym (front (m - 1 - 1) (omega (arith, h))) ∙ e ∙ last);
        longest = λ k h l. absurd (omega arith);
      })

  -- a window that carries q letters: all but the last are equal
  module _ (s q : ℕ) (inside : s + m ≤ n) (part : q < m) where
    reached : reach P T s q ≡ m - 1
    unfolding Meets
    reached =
        reach-is P T s q (m - 1) (omega (arith, size, long)) (λ i h. front i h ∙ sym (letter (s + i) (omega arith))) (omega arith) (omega (arith, size))
        (λ e. differ (sym (sym last ∙ e ∙ letter (s + (m - 1)) (omega arith))))

    looked : (window P T s q).compared ≡ m - q
    unfolding window
    looked = looks-part (length P - q) (equal_on P T s q) (omega (arith, reached, size)) ∙ omega (arith, reached)

    next : (window P T s q).next ≡ at (s + 1) (m - 2)
    unfolding window
    next = kmp-next P s (reach P T s q) (m - 1) (s + 1) (m - 2) (sym entry ∙ ap (kmp_entry P) (sym reached)) (omega (arith, reached)) (omega arith)

  pub aaab-costs : compared kmp (aaab m a b) (replicate n a) ≡ 2 * n - m
  unfolding compared compared_in
  aaab-costs =
      let inside : 0 + length P ≤ length T = omega (arith, size, long) in
      rw (run_on (sound P T (omega (arith, size))) 0 0 inside (carries-none P T 0 (omega (arith, size))), looked 0 0 (omega arith) (omega arith), next 0 0 (omega arith) (omega arith))
      (omega (arith, later))
    where
      -- the windows after the first
      later : compared_in (run_from window P T (at (0 + 1) (m - 2))) ≡ 2 * (n - m)
      later =
          run-alike window P T 2 (m - 2) (λ s i. (looked s (m - 2) (omega (arith, size, long)) (omega arith) ∙ omega arith, next s (m - 2) (omega (arith, size, long)) (omega arith)))
          (n - m) (0 + 1) (omega (arith, size, long))

-- a pattern of one letter: one look a window, which moves on by 1 carrying nothing, whether the letter is equal or not
module _ (b : ℕ) (T : List ℕ) where
  whole : kmp_entry (b ∷ []) 1 ≡ 1
  unfolding kmp_entry largest strong border same
  whole = refl

  each : (s : ℕ) → s + 1 ≤ length T → ((window (b ∷ []) T s 0).compared ≡ 1) × ((window (b ∷ []) T s 0).next ≡ at (s + 1) 0)
  unfolding window
  each s inside =
      let e : ℕ = equal_on (b ∷ []) T s 0 in
      let r : ℕ = reach (b ∷ []) T s 0 in
      let few : r ≤ 1 = reach-le (b ∷ []) T s 0 (omega arith) in
      by-test (λ _. ((window (b ∷ []) T s 0).compared ≡ 1) × ((window (b ∷ []) T s 0).next ≡ at (s + 1) 0)) (ltb e 1)
      (λ t.
      let none : e < 1 = ltb-true e 1 t in
      (looks-part (1 - 0) e none ∙ omega arith, kmp-next (b ∷ []) s r 0 (s + 1) 0 (omega (arith, kmp_entry-le (b ∷ []) r)) (omega arith) (omega arith)))
      (λ t.
      let all : 1 ≤ e = ltb-false e 1 t in
      let is : 1 ≡ r = omega arith in
      (looks-all (1 - 0) e all ∙ omega arith, kmp-next (b ∷ []) s r 1 (s + 1) 0 (sym whole ∙ ap (kmp_entry (b ∷ [])) is) (omega arith) (omega arith)))

  pub one-costs : compared kmp (b ∷ []) T ≡ length T
  unfolding compared
  one-costs = run-alike window (b ∷ []) T 1 0 each (length T) 0 (omega arith) ∙ omega arith
