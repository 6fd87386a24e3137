-- One window of the search, as its code goes through it: the last letter first, then those before it from the last down; and the move by the tables' entries. Assumes nothing.
use mathlib.Core.Path.{◌≡◌, refl, ◌∙◌}
use mathlib.Core.Logic.{⊎_elim}
use Prim.Native.Nat.{ℕ, ◌+◌, ◌-◌, ◌≤◌, ◌<◌}
use native.Mathlib.Omega.{arith}
use mathlib.Core.List.{List}
use lib.ListN.{length, get_or, set}
use lib.Dec.{eqb}
use borrow.Author.Tests.{eqb-true, eqb-false}
use Rattle.std.proofs.lemmas.Bool.{cases_lt}
use Rattle.matching.specs.Letters.{compared_down, equal_down}
use Rattle.matching.specs.Machine.{at}
use Rattle.matching.proofs.CaseAnalysis.{by-test}
use Rattle.matching.proofs.Letters.{Downward, down-compared, down-last, down-no-last}
use Rattle.matching.specs.Find.{refusal_of}
use Rattle.matching.proofs.Progress.{Progress, Looping, looping, Accepted, accepted-ok, begins, hit-down, miss-down}
use Rattle.letter_tables.proofs.BadCharacter.{delta1-reads}
use Rattle.suffix_tables.proofs.Delta2.{delta2-reads}
use Rattle.boyer_moore.specs.BoyerMoore.{larger, boyer_moore_move, window, boyer_moore}
use Rattle.boyer_moore.specs.Made.{Made}
use Rattle.boyer_moore.proofs.Sound.{sound}
use Rattle.boyer_moore.proofs.Moves.{Goes, mismatch-goes, last_goes, occurrence-goes}

-- the search at the window that starts at s: the run's progress, and a start within the text
pub record Going (P T list₀ : List ℕ) (s total compared : ℕ) (list : List ℕ) : Type 0 where
  pub run : Looping boyer_moore P T list₀ (at s 0) total compared list
  pub near : s ≤ length T

pub allowed : (P T : List ℕ) {scratch : List ℕ} → 0 ≡ refusal_of boyer_moore P T scratch → Accepted boyer_moore P T scratch
allowed P T is = accepted-ok is

pub going-first : {P T scratch list₀ : List ℕ} → Accepted boyer_moore P T scratch → Going P T list₀ 0 0 0 list₀
going-first {P} {T} ok = record { run = looping (begins ok.limits (sound P T)); near = omega arith }

-- DELTA2(1), from which the move after an occurrence is read
pub first-least : {P scratch : List ℕ} → Made P scratch → 1 ≤ length P → length P - 1 ≤ get_or scratch 256 0
first-least {P} made some = let first = delta2-reads P {p = 256} 0 made.delta2 some (omega arith) in omega (arith, first.least)

-- the last letter of the window at s is equal; so many letters are equal then; they are not all, or they are
abbrev pub Last : List ℕ → List ℕ → ℕ → Type 0
Last P T s = get_or P (length P - 1) 0 ≡ get_or T (s + (length P - 1)) 0

abbrev pub passed : List ℕ → List ℕ → ℕ → ℕ
passed P T s = 1 + compared_down P T s (length P - 1)

by-cases : (P T : List ℕ) (s : ℕ) (A : Type 0) → ((Last P T s → ⊥) → A) → (Last P T s → passed P T s < length P → A) → (Last P T s → length P ≤ passed P T s → A) → A
by-cases P T s A differs part all =
    let p : ℕ = get_or P (length P - 1) 0 in
    let t : ℕ = get_or T (s + (length P - 1)) 0 in
    by-test (λ _. A) (eqb p t) (λ e. ⊎_elim (part (eqb-true p t e)) (all (eqb-true p t e)) (cases_lt (passed P T s) (length P))) (λ e. differs (eqb-false p t e))

-- a move d that is the engine's for the e letters that are equal
goes_on : {P T list₀ list : List ℕ} {s e d total compared : ℕ} → s + length P ≤ length T → Downward P T s (length P) e → Goes P T s e d
    → Progress boyer_moore P T list₀ (boyer_moore_move P T s (equal_down P T s (length P))) total compared list → Going P T list₀ (s + d) total compared list
goes_on inside w e p = record { run = looping (rw e.next at (rw (← w.is) at p)); near = omega (arith, e.most) }

module _ (P T : List ℕ) {scratch : List ℕ} (made : Made P scratch) (some : 1 ≤ length P) {s : ℕ} (inside : s + length P ≤ length T) where
  down : Last P T s → Downward P T s (length P) (passed P T s)
  down e = down-last some e (down-compared refl (omega arith) (omega arith))

  -- the move d by the entries: DELTA1 where the last letter differs, the larger value where another one does, and after an occurrence by DELTA2(1)
  module _ {d : ℕ} (byte : get_or T (s + (length P - 1)) 0 < 256) (by-letter : (Last P T s → ⊥) → d ≡ get_or scratch (get_or T (s + (length P - 1)) 0) 0)
      (by-larger : Last P T s → passed P T s < length P → d ≡ larger P T s (length P - passed P T s) - passed P T s)
      (after : Last P T s → length P ≤ passed P T s → d ≡ get_or scratch 256 0 - (length P - 1)) where
    goes-differs : (Last P T s → ⊥) → Goes P T s 0 d
    goes-differs differs = last_goes P T s some differs (by-letter differs ∙ (delta1-reads P (get_or T (s + (length P - 1)) 0) made.delta1 byte).is)

    goes-part : Last P T s → passed P T s < length P → Goes P T s (passed P T s) d
    goes-part e h = rw (by-larger e h) (mismatch-goes P T s (passed P T s) h refl)

    goes-all : Last P T s → length P ≤ passed P T s → Goes P T s (passed P T s) d
    goes-all e h = let first = delta2-reads P {p = 256} 0 made.delta2 some refl in occurrence-goes P T s (passed P T s) some h (omega (arith, first.is, after e h))

    -- it moves the window on, so the measure of a search up to e falls
    pub ends : (e : ℕ) → s < e → e - (s + d) < e - s
    ends e h =
        let ahead : 1 ≤ d = by-cases P T s (1 ≤ d) (λ x. (goes-differs x).some) (λ x y. (goes-part x y).some) (λ x y. (goes-all x y).some) in
        omega arith

    -- and one window is done
    module _ {list₀ list l : List ℕ} {total compared t c : ℕ} (g : Going P T list₀ s total compared list) (none : (Last P T s → ⊥) → (l ≡ list) × ((t ≡ total) × (c ≡ compared + 1)))
        (part : Last P T s → passed P T s < length P → (l ≡ list) × ((t ≡ total) × (c ≡ compared + passed P T s + 1)))
        (all : Last P T s → length P ≤ passed P T s → (l ≡ set list total s) × ((t ≡ total + 1) × (c ≡ compared + passed P T s))) where
      pub moved : Going P T list₀ (s + d) t c l
      unfolding window
      moved =
          let p = g.run.progress in
          by-cases P T s (Going P T list₀ (s + d) t c l)
          (λ x.
          let w = none x in
          let zero = down-no-last some x in
          rw (w.0, w.1.0) (goes_on inside zero (goes-differs x) (miss-down p inside refl zero some (omega (arith, w.1.1)))))
          (λ x y. let w = part x y in rw (w.0, w.1.0) (goes_on inside (down x) (goes-part x y) (miss-down p inside refl (down x) y w.1.1)))
          (λ x y. let w = all x y in rw (w.0, w.1.0) (goes_on inside (down x) (goes-all x y) (hit-down p inside refl (down x) y w.1.1)))
