-- The double window's steps are right at every window, by the laws of its tables. Assumes nothing.
use mathlib.Core.Path.{◌≡◌, sym, ◌∙◌}
use Prim.Native.Nat.{ℕ, ◌+◌, ◌-◌, ◌*◌, ◌≤◌, ◌<◌}
use native.Mathlib.Omega.{arith}
use mathlib.Core.Bool.{false, cond}
use mathlib.Core.List.{List}
use lib.ListN.{length, get_or}
use lib.Dec.{eqb, ltb}
use borrow.Author.Tests.{eqb-true, eqb-false, eq-eqb, ne_eqb, lt-ltb, le-ltb, ltb-true, ltb-false}
use Rattle.matching.specs.Machine.{at, last_to_first}
use Rattle.matching.proofs.CaseAnalysis.{by-test, at_same}
use Rattle.matching.proofs.Occurrences.{Stands, no-occurrence}
use Rattle.matching.proofs.Machine.{carries-none, Moves, Right, Sound, right-down}
use Rattle.letter_tables.specs.DoubleWindow.{last_of, end_entry, double_entry}
use Rattle.letter_tables.specs.Moves.{horspool_move}
use Rattle.letter_tables.proofs.BadCharacter.{last_in-letter}
use Rattle.letter_tables.proofs.DoubleWindow.{read, read-last, end_entry-read, double_entry-read, end_entry-zero, double_entry-zero, end_entry-stands, double_entry-stands, end-safe, double-safe, end_entry-le, double_entry-le}
use Rattle.letter_tables.proofs.Moves.{horspool-moves}
use Rattle.double_window.specs.DoubleWindow.{under, beyond, jump, window}

-- ---- the jump and the window by their cases

module _ (P T : List ℕ) (s : ℕ) where
  pub jump-near : s + (2 * length P - 1) < length T → jump P T s ≡ double_entry P (under P T s) (beyond P T s)
  unfolding jump
  jump-near h = rw (lt-ltb (s + (2 * length P - 1)) (length T) h)

  pub jump_end : length T ≤ s + (2 * length P - 1) → jump P T s ≡ end_entry P (under P T s)
  unfolding jump
  jump_end h = rw (le-ltb (s + (2 * length P - 1)) (length T) h)

  pub jump-past : 1 ≤ length P → length T ≤ s + (2 * length P - 1) → jump P T s ≡ read P (under P T s)
  jump-past some h = jump_end h ∙ end_entry-read P (under P T s) some

  -- the jump as code reads it: by u alone where the pattern has u, and where v lies past the text; else by v
  pub jump_in : 1 ≤ length P → (read P (under P T s) ≡ length P → ⊥) → jump P T s ≡ read P (under P T s)
  jump_in some n =
      by-test (λ _. jump P T s ≡ read P (under P T s)) (ltb (s + (2 * length P - 1)) (length T))
      (λ e.
      let h : s + (2 * length P - 1) < length T = ltb-true (s + (2 * length P - 1)) (length T) e in
      jump-near h ∙ double_entry-read P (under P T s) (beyond P T s) some ∙ rw (ne_eqb (read P (under P T s)) (length P) n))
      (λ e. jump-past some (ltb-false (s + (2 * length P - 1)) (length T) e))

  pub jump_out : 1 ≤ length P → s + (2 * length P - 1) < length T → read P (under P T s) ≡ length P → jump P T s ≡ length P + read P (beyond P T s)
  jump_out some h e = jump-near h ∙ double_entry-read P (under P T s) (beyond P T s) some ∙ rw (eq-eqb (read P (under P T s)) (length P) e)

  -- 0 where u is the last letter
  pub jump-zero : 1 ≤ length P → get_or P (length P - 1) 0 ≡ under P T s → jump P T s ≡ 0
  jump-zero some e = let z = read-last P (under P T s) e in jump_in some (λ m. omega arith) ∙ z

  -- a jump ends within the text
  pub jump_fits : s + length P ≤ length T → s + jump P T s ≤ length T
  jump_fits inside =
      by-test (λ _. s + jump P T s ≤ length T) (ltb (s + (2 * length P - 1)) (length T))
      (λ e.
      let h : s + (2 * length P - 1) < length T = ltb-true (s + (2 * length P - 1)) (length T) e in
      omega (arith, jump-near h, double_entry-le P (under P T s) (beyond P T s)))
      (λ e. omega (arith, jump_end (ltb-false (s + (2 * length P - 1)) (length T) e), end_entry-le P (under P T s)))

  pub window-zero : (q : ℕ) → jump P T s ≡ 0 → window P T s q ≡ last_to_first P T s (length P - 1) (horspool_move P T s)
  unfolding window
  window-zero q z = rw (eq-eqb (jump P T s) 0 z)

  pub window-jump : (q : ℕ) → (jump P T s ≡ 0 → ⊥) → window P T s q ≡ record { compared = 0; stands = false; next = at (s + jump P T s) 0 }
  unfolding window
  window-jump q n = rw (ne_eqb (jump P T s) 0 n)

-- ---- every window is right

module _ (P T : List ℕ) (s : ℕ) (some : 1 ≤ length P) where
  -- a fact of both rules is a fact of the jump
  jump-by : (Q : ℕ → Type 0) → Q (double_entry P (under P T s) (beyond P T s)) → Q (end_entry P (under P T s)) → Q (jump P T s)
  unfolding jump
  jump-by Q f g = by-test (λ t. Q (cond t (double_entry P (under P T s) (beyond P T s)) (end_entry P (under P T s)))) (ltb (s + (2 * length P - 1)) (length T)) (λ _. f) (λ _. g)

  -- at 0 the window's end is known equal
  pub end-equal : jump P T s ≡ 0 → get_or P (length P - 1) 0 ≡ get_or T (s + (length P - 1)) 0
  end-equal z =
      let last : last_of P (under P T s) ≡ length P =
      jump-by (λ d. d ≡ 0 → last_of P (under P T s) ≡ length P) (double_entry-zero P (under P T s) (beyond P T s) some) (end_entry-zero P (under P T s) some) z in
      at_same P (omega arith) ∙ last_in-letter P (length P) (under P T s) (omega arith)

  -- elsewhere the pattern does not stand
  stands-nowhere : (jump P T s ≡ 0 → ⊥) → Stands P T s → ⊥
  stands-nowhere n st = n (jump-by (λ d. d ≡ 0) (double_entry-stands P T s some st (beyond P T s)) (end_entry-stands P T s some st))

  jump-moves : (jump P T s ≡ 0 → ⊥) → Moves P T s (at (s + jump P T s) 0)
  jump-moves n =
      record {
        ahead = omega (arith, n);
        skips = λ k l b st. jump-by (λ d. k < s + d → ⊥) (double-safe P T s k l st) (end-safe P T s k l st) b;
        hands = carries-none P T (s + jump P T s) some;
      }

  pub right : s + length P ≤ length T → (q : ℕ) → Right P T s (window P T s q)
  right inside q =
      by-test (λ _. Right P T s (window P T s q)) (eqb (jump P T s) 0)
      (λ e.
      let z = eqb-true (jump P T s) 0 e in
      rw (window-zero P T s q z)
      (right-down inside (horspool-moves P T s some) some (length P - 1) (omega arith) (λ i h l. at_same P (omega arith) ∙ end-equal z ∙ at_same T (omega arith))))
      (λ e.
      let n = eqb-false (jump P T s) 0 e in
      rw (window-jump P T s q n) (record { reports = sym (no-occurrence P T s some (stands-nowhere n)); few = omega arith; moves = jump-moves n }))

pub sound : (P T : List ℕ) → 1 ≤ length P → Sound window P T
sound P T h = record { some = h; right = λ s q inside _. right P T s h inside q }
