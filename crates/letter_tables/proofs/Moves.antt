-- What engines cite of the tables of letters: a move by a table's rule goes on, passes over no occurrence, and carries nothing (`Moves`, of the window machine).
-- DELTA1 alone may point back, so of it they cite no more than that it passes over no occurrence.
-- All of it is shown from the rules alone, never from how a table is filled. Assumes nothing.
use mathlib.Core.Path.{◌≡◌, sym, ap, subst, ◌∙◌}
use Prim.Native.Nat.{ℕ, ◌+◌, ◌-◌, ◌≤◌, ◌<◌}
use native.Mathlib.Omega.{arith}
use mathlib.Core.Bool.{false}
use mathlib.Core.List.{List}
use lib.ListN.{length, get_or}
use lib.Dec.{ltb}
use borrow.Author.Tests.{lt-ltb, le-ltb, ltb-true, ltb-false}
use Rattle.matching.specs.Machine.{stop, at}
use Rattle.matching.specs.Find.{Engine}
use Rattle.matching.proofs.CaseAnalysis.{by-test}
use Rattle.matching.proofs.Occurrences.{Stands, no-occurrence}
use Rattle.matching.proofs.Machine.{carries-none, Moves, Right}
use Rattle.matching.proofs.Progress.{Progress, Over, stopped}
use Rattle.tables.proofs.Tables.{Reads}
use Rattle.letter_tables.specs.BadCharacter.{sunday_entry, horspool_entry, delta1_entry}
use Rattle.letter_tables.specs.Moves.{horspool_move, sunday_move}
use Rattle.letter_tables.proofs.BadCharacter.{last_in-le, bad-character, sunday_entry-pos, horspool_entry-pos}

-- ---- Horspool

pub horspool-moves : (P T : List ℕ) (s : ℕ) → 1 ≤ length P → Moves P T s (horspool_move P T s)
unfolding horspool_move
horspool-moves P T s h =
    let p : ℕ = s + (length P - 1) in
    record {
      ahead = omega (arith, horspool_entry-pos P (get_or T p 0) h);
      skips = λ k l b st. bad-character P T (length P - 1) p k (omega arith) (omega arith) (omega arith) (omega arith) st;
      hands = carries-none P T (s + horspool_entry P (get_or T p 0)) h;
    }

-- an engine that has moved by the rule is where code goes by the entry d that it reads
pub horspool-goes : {e : Engine} {P T list₀ list : List ℕ} {total compared : ℕ} (s : ℕ) {d : ℕ} → Progress e P T list₀ (horspool_move P T s) total compared list
    → Reads d (horspool_entry P (get_or T (s + (length P - 1)) 0)) 1 (length P) → Progress e P T list₀ (at (s + d) 0) total compared list
unfolding horspool_move
horspool-goes {e} {P} {T} {list₀} {list} {total} {compared} s p r = subst (λ (n : ℕ). Progress e P T list₀ (at (s + n) 0) total compared list) (sym r.is) p

-- ---- Sunday

-- a letter follows the window: by its entry; none does: stop
pub sunday-on : (P T : List ℕ) (s : ℕ) → s + length P < length T → sunday_move P T s ≡ at (s + sunday_entry P (get_or T (s + length P) 0)) 0
unfolding sunday_move
sunday-on P T s h = rw (lt-ltb (s + length P) (length T) h)

pub sunday-stop : (P T : List ℕ) (s : ℕ) → length T ≤ s + length P → sunday_move P T s ≡ stop
unfolding sunday_move
sunday-stop P T s h = rw (le-ltb (s + length P) (length T) h)

-- where code goes by the entry d that it reads
pub sunday-next : (P T : List ℕ) (s : ℕ) {d : ℕ} → s + length P < length T → Reads d (sunday_entry P (get_or T (s + length P) 0)) 1 (length P + 1) → sunday_move P T s ≡ at (s + d) 0
sunday-next P T s h r = sunday-on P T s h ∙ ap (λ (n : ℕ). at (s + n) 0) (sym r.is)

pub sunday-goes : {e : Engine} {P T list₀ list : List ℕ} {total compared : ℕ} (s : ℕ) {d : ℕ} → Progress e P T list₀ (sunday_move P T s) total compared list → s + length P < length T
    → Reads d (sunday_entry P (get_or T (s + length P) 0)) 1 (length P + 1) → Progress e P T list₀ (at (s + d) 0) total compared list
sunday-goes {e} {P} {T} {list₀} {list} {total} {compared} s p h r =
    subst (λ x. Progress e P T list₀ x total compared list) (sunday-next P T s h r) p

-- no letter follows the window: the engine has stopped
pub sunday-over : {e : Engine} {P T list₀ list : List ℕ} {total compared : ℕ} (s : ℕ) → Progress e P T list₀ (sunday_move P T s) total compared list → length T ≤ s + length P
    → Over e P T list₀ total compared list
sunday-over {P = P} {T = T} s p h = stopped (rw (sunday-stop P T s h) at p)

pub sunday-moves : (P T : List ℕ) (s : ℕ) → 1 ≤ length P → Moves P T s (sunday_move P T s)
sunday-moves P T s h =
    let p : ℕ = s + length P in
    let c : ℕ = get_or T p 0 in
    by-test (λ _. Moves P T s (sunday_move P T s)) (ltb p (length T))
    (λ e.
    rw (sunday-on P T s (ltb-true p (length T) e))
    (record {
      ahead = omega (arith, sunday_entry-pos P c);
      skips = λ k l b st. bad-character P T (length P) p k (omega arith) (omega (arith, last_in-le P (length P) c)) (omega arith) (omega (arith, last_in-le P (length P) c)) st;
      hands = carries-none P T (s + sunday_entry P c) h;
    }))
    (λ e. rw (sunday-stop P T s (ltb-false p (length T) e)) (record { ahead = tt; skips = λ k l b st. omega (arith, ltb-false p (length T) e, st.inside); hands = tt }))

-- a window that looks at one letter, finds it unequal and moves by the rule is right, whichever letter it is
pub sunday-right : (P T : List ℕ) (s i : ℕ) → i < length P → (get_or P i 0 ≡ get_or T (s + i) 0 → ⊥) → Right P T s (record { compared = 1; stands = false; next = sunday_move P T s })
sunday-right P T s i h differs =
    let some : 1 ≤ length P = omega arith in
    record { reports = sym (no-occurrence P T s some (λ st. differs (st.letters i h))); few = omega arith; moves = sunday-moves P T s some }

-- ---- DELTA1

-- whatever was compared: with the text pointer at place p, under one of the window's letters, no occurrence past s ends before the place to which DELTA1 moves it
pub delta1-safe : (P T : List ℕ) (s p : ℕ) → s ≤ p → p < s + length P → (k : ℕ) → s < k → k + length P ≤ p + delta1_entry P (get_or T p 0) → Stands P T k → ⊥
delta1-safe P T s p low high k h l st =
    bad-character P T (length P) p k (omega arith) (omega (arith, last_in-le P (length P) (get_or T p 0))) (omega arith) (omega (arith, last_in-le P (length P) (get_or T p 0))) st
