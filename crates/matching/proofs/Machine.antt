-- The laws of the window machine, for any engine. An engine shows facts of one window (`Right`); from these follow, once for all engines:
-- the bound on the number of windows is never met (`run_on`, `run-off`, `run-stop` name none); the reported positions are the occurrences (`positions-are`);
-- the comparisons are at most m + 1 a window (`run-few`). Assumes nothing.
use mathlib.Core.Path.{◌≡◌, refl, sym, ap, ◌∙◌}
use Prim.Native.Nat.{ℕ, zero, suc, ◌+◌, ◌-◌, ◌*◌, ◌≤◌, ◌<◌}
use native.Mathlib.Omega.{arith}
use native.Mathlib.Nat.{sub-zero, suc-mul}
use mathlib.Core.List.{List, [], ◌∷◌}
use lib.ListN.{length, get_or}
use lib.Dec.{leb}
use borrow.Author.Tests.{le-leb, lt-leb, leb-true, leb-false}
use Rattle.matching.specs.Occurrences.{occurs_at, occurs_from, occurrences}
use Rattle.matching.specs.Letters.{equal_on, equal_down}
use Rattle.matching.specs.Machine.{State, stop, at, Window, Steps, visit, windows, run_from, run, compared_in, positions_in, first_to_last, last_to_first}
use Rattle.matching.proofs.CaseAnalysis.{by-test}
use Rattle.matching.proofs.Occurrences.{Stands, no-occurrence, rest, rest-step, rest-skip, rest-none, rest-past}
use Rattle.matching.proofs.Letters.{Meets, meets-none, reach-le, reach-reports, down_le, down-reports, looks-le}

-- ---- what an engine shows of one window

-- the letters that a window carries: fewer than the pattern has, and equal
pub record Carries (P T : List ℕ) (s q : ℕ) : Type 0 where
  pub part : q < length P
  pub meets : Meets P T s q

-- a window that carries nothing may start anywhere
pub carries-none : (P T : List ℕ) (s : ℕ) → 1 ≤ length P → Carries P T s 0
carries-none P T s h = record { part = h; meets = meets-none P T s }

-- a state starts past s; a position lies before a state's start, and any position before a stop; what is known of a state
abbrev pub Ahead : ℕ → State → Type 0
Ahead s stop = Unit {0}
Ahead s (at s' q') = s < s'

abbrev pub Before : ℕ → State → Type 0
Before k stop = Unit {0}
Before k (at s q) = k < s

abbrev pub Carried : List ℕ → List ℕ → State → Type 0
Carried P T stop = Unit {0}
Carried P T (at s q) = Carries P T s q

-- from the window at s an engine may go to the state x: it moves on; no occurrence starts strictly between, nor at all after a stop; what x carries is equal
pub record Moves (P T : List ℕ) (s : ℕ) (x : State) : Type 0 where
  pub ahead : Ahead s x
  pub skips : (k : ℕ) → s < k → Before k x → Stands P T k → ⊥
  pub hands : Carried P T x

-- one window is right: it reports an occurrence exactly where the pattern stands, makes at most m + 1 looks, and moves on rightly. Most engines look at each letter at most once;
-- one that looks at a letter first and then at all in their order looks at that one twice
pub record Right (P T : List ℕ) (s : ℕ) (v : Window) : Type 0 where
  pub reports : v.stands ≡ occurs_at P T s
  pub few : v.compared ≤ length P + 1
  pub moves : Moves P T s v.next

-- an engine's steps are right at every window inside the text whose carried letters are equal
pub record Sound (w : Steps) (P T : List ℕ) : Type 0 where
  pub some : 1 ≤ length P
  pub right : (s q : ℕ) → s + length P ≤ length T → Carries P T s q → Right P T s (w P T s q)

-- either way of comparing reports rightly and looks at each letter at most once
module _ {P T : List ℕ} {s : ℕ} {x : State} (inside : s + length P ≤ length T) (moves : Moves P T s x) where
  pub right-up : {q : ℕ} → Carries P T s q → Right P T s (first_to_last P T s q x)
  right-up {q} c =
      record {
        reports = reach-reports P T s q inside c.part c.meets;
        few = omega (arith, looks-le (length P - q) (equal_on P T s q) (omega (arith, reach-le P T s q (omega (arith, c.part)))));
        moves = moves;
      }

  pub right-down : 1 ≤ length P → (k : ℕ) → k ≤ length P → ((i : ℕ) → k ≤ i → i < length P → get_or P i 0 ≡ get_or T (s + i) 0) → Right P T s (last_to_first P T s k x)
  right-down some k k≤ above =
      record {
        reports = down-reports P T s k inside some k≤ above;
        few = omega (arith, looks-le k (equal_down P T s k) (down_le P T s k));
        moves = moves;
      }

-- ---- the run by its windows

pub windows-on : (f : ℕ) (w : Steps) (P T : List ℕ) (s q : ℕ) → s + length P ≤ length T
    → windows (suc f) w P T (at s q) ≡ visit w P T s q ∷ windows f w P T (w P T s q).next
unfolding windows
windows-on f w P T s q h = rw (le-leb (s + length P) (length T) h)

pub windows-off : (f : ℕ) (w : Steps) (P T : List ℕ) (s q : ℕ) → length T < s + length P → windows f w P T (at s q) ≡ []
unfolding windows
windows-off zero w P T s q h = refl
windows-off (suc f) w P T s q h = rw (lt-leb (s + length P) (length T) h)

pub windows-stop : (f : ℕ) (w : Steps) (P T : List ℕ) → windows f w P T stop ≡ []
unfolding windows
windows-stop zero w P T = refl
windows-stop (suc f) w P T = refl

pub windows-none : (w : Steps) (P T : List ℕ) (x : State) → windows zero w P T x ≡ []
unfolding windows
windows-none w P T x = refl

-- so many windows reach past the text's end
abbrev Enough : List ℕ → ℕ → State → Type 0
Enough T f stop = Unit {0}
Enough T f (at s q) = length T < s + f

ahead-enough : (T : List ℕ) (f s : ℕ) (x : State) → Ahead s x → length T < s + suc f → Enough T f x
ahead-enough T f s stop a h = tt
ahead-enough T f s (at s' q') a h = omega arith

module _ {w : Steps} {P T : List ℕ} (sound : Sound w P T) where
  -- any two bounds that reach past the text's end give the same windows
  pub windows-enough : (f g : ℕ) (x : State) → Enough T f x → Enough T g x → Carried P T x → windows f w P T x ≡ windows g w P T x
  windows-enough zero g stop h k n = windows-stop zero w P T ∙ sym (windows-stop g w P T)
  windows-enough (suc f) g stop h k n = windows-stop (suc f) w P T ∙ sym (windows-stop g w P T)
  windows-enough zero g (at s q) h k n = windows-off zero w P T s q (omega (arith, sound.some)) ∙ sym (windows-off g w P T s q (omega (arith, sound.some)))
  windows-enough (suc f) zero (at s q) h k n = windows-off (suc f) w P T s q (omega (arith, sound.some)) ∙ sym (windows-off zero w P T s q (omega (arith, sound.some)))
  windows-enough (suc f) (suc g) (at s q) h k n =
      by-test (λ _. windows (suc f) w P T (at s q) ≡ windows (suc g) w P T (at s q)) (leb (s + length P) (length T))
      (λ e.
      let inside : s + length P ≤ length T = leb-true (s + length P) (length T) e in
      let r = sound.right s q inside n in
      windows-on f w P T s q inside
      ∙ ap (λ vs. visit w P T s q ∷ vs)
      (windows-enough f g (w P T s q).next (ahead-enough T f s (w P T s q).next r.moves.ahead h) (ahead-enough T g s (w P T s q).next r.moves.ahead k) r.moves.hands)
      ∙ sym (windows-on g w P T s q inside))
      (λ e.
      let past : length T < s + length P = leb-false (s + length P) (length T) e in
      windows-off (suc f) w P T s q past ∙ sym (windows-off (suc g) w P T s q past))

  -- the run's equations: they name no bound, so the run ends by its stop rules alone
  pub run_on : (s q : ℕ) → s + length P ≤ length T → Carries P T s q → run_from w P T (at s q) ≡ visit w P T s q ∷ run_from w P T (w P T s q).next
  unfolding run_from
  run_on s q h k =
      let r = sound.right s q h k in
      windows-on (length T) w P T s q h
      ∙ ap (λ vs. visit w P T s q ∷ vs)
      (windows-enough (length T) (suc (length T)) (w P T s q).next (ahead-enough T (length T) s (w P T s q).next r.moves.ahead (omega arith))
      (ahead-enough T (suc (length T)) s (w P T s q).next r.moves.ahead (omega arith)) r.moves.hands)

  pub run-off : (s q : ℕ) → length T < s + length P → run_from w P T (at s q) ≡ []
  unfolding run_from
  run-off s q h = windows-off (suc (length T)) w P T s q h

  pub run-stop : run_from w P T stop ≡ []
  unfolding run_from
  run-stop = windows-stop (suc (length T)) w P T

  -- ---- the run's positions

  -- the occurrences from a state on
  abbrev ahead_of : State → List ℕ
  ahead_of stop = []
  ahead_of (at s q) = rest P T s

  skipped : (s : ℕ) (x : State) → Ahead s x → ((k : ℕ) → s < k → Before k x → Stands P T k → ⊥) → rest P T (suc s) ≡ ahead_of x
  skipped s stop a none = rest-none P T (suc s) (λ j h. no-occurrence P T j sound.some (none j (omega arith) tt))
  skipped s (at s' q') a none =
      rest-skip P T (s' - suc s) (suc s) (λ j h l. no-occurrence P T j sound.some (none j (omega arith) (omega arith))) ∙ ap (rest P T) (omega arith)

  positions-ahead : (f : ℕ) (x : State) → Enough T f x → Carried P T x → positions_in (windows f w P T x) ≡ ahead_of x
  unfolding positions_in
  positions-ahead zero stop h n = ap positions_in (windows-stop zero w P T)
  positions-ahead (suc f) stop h n = ap positions_in (windows-stop (suc f) w P T)
  positions-ahead zero (at s q) h n = ap positions_in (windows-off zero w P T s q (omega (arith, sound.some))) ∙ sym (rest-past P T s sound.some (omega (arith, sound.some)))
  positions-ahead (suc f) (at s q) h n =
      by-test (λ _. positions_in (windows (suc f) w P T (at s q)) ≡ rest P T s) (leb (s + length P) (length T))
      (λ e.
      let inside : s + length P ≤ length T = leb-true (s + length P) (length T) e in
      let r = sound.right s q inside n in
      let after : positions_in (windows f w P T (w P T s q).next) ≡ rest P T (suc s) =
      positions-ahead f (w P T s q).next (ahead-enough T f s (w P T s q).next r.moves.ahead h) r.moves.hands
      ∙ sym (skipped s (w P T s q).next r.moves.ahead r.moves.skips) in
      rw (windows-on f w P T s q inside, r.reports, after, rest-step P T s (omega arith)))
      (λ e.
      let past : length T < s + length P = leb-false (s + length P) (length T) e in
      rw (windows-off (suc f) w P T s q past) (sym (rest-past P T s sound.some past)))

  -- the positions that a sound engine reports are the occurrences, each once and rising
  pub positions-are : positions_in (run w P T) ≡ occurrences P T
  unfolding run_from occurrences
  positions-are = positions-ahead (suc (length T)) (at 0 0) (omega arith) (carries-none P T 0 sound.some) ∙ ap (λ n. occurs_from n P T 0) (sub-zero (suc (length T)))

  -- ---- the run's comparisons: at most m + 1 a window

  compared-few : (f : ℕ) (x : State) → Carried P T x → compared_in (windows f w P T x) ≤ f * (length P + 1)
  unfolding compared_in
  compared-few zero stop n = rw (windows-stop zero w P T) (omega arith)
  compared-few (suc f) stop n = rw (windows-stop (suc f) w P T) (omega arith)
  compared-few zero (at s q) n = rw (windows-none w P T (at s q)) (omega arith)
  compared-few (suc f) (at s q) n =
      by-test (λ _. compared_in (windows (suc f) w P T (at s q)) ≤ suc f * (length P + 1)) (leb (s + length P) (length T))
      (λ e.
      let inside : s + length P ≤ length T = leb-true (s + length P) (length T) e in
      let r = sound.right s q inside n in
      rw (windows-on f w P T s q inside, suc-mul) (omega (arith, r.few, compared-few f (w P T s q).next r.moves.hands)))
      (λ e. rw (windows-off (suc f) w P T s q (leb-false (s + length P) (length T) e)) (omega arith))

  pub run-few : compared_in (run w P T) ≤ suc (length T) * (length P + 1)
  unfolding run_from
  run-few = compared-few (suc (length T)) (at 0 0) (carries-none P T 0 sound.some)
