-- An engine's loop, for any engine: what is done and the rest of the run from here are the whole run. The laws: it begins, a window reports or misses,
-- it is over, and then the find keeps its promise; the counters stay small on the way. An engine's own proof is left with the arithmetic of its moves. Assumes nothing.
use mathlib.Core.Path.{◌≡◌, refl, sym, ap, subst, ◌∙◌}
use Prim.Native.Nat.{ℕ, suc, ◌+◌, ◌-◌, ◌≤◌, ◌<◌}
use native.Mathlib.Omega.{arith}
use native.Mathlib.Nat.{mul-le-mul}
use mathlib.Core.Bool.{true, false, cond}
use mathlib.Core.Logic.{⊎_elim}
use Rattle.std.proofs.lemmas.Bool.{cases_lt}
use mathlib.Core.List.{List, [], ◌∷◌, ◌++◌, append-nil, append_assoc}
use lib.ListN.{length, set, length-append}
use borrow.Author.Tests.{eq-eqb, ne_eqb}
use Rattle.matching.specs.Occurrences.{occurrences}
use Rattle.matching.specs.Received.{received}
use Rattle.matching.specs.Letters.{equal_on, reach, equal_down}
use Rattle.matching.specs.Machine.{State, stop, at, Window, Steps, Visit, visit, run_from, run, compared_in, positions_in, first_to_last, last_to_first}
use Rattle.matching.specs.Find.{Engine, compared, refusal_of, Found}
use Rattle.matching.proofs.CaseAnalysis.{by-test}
use Rattle.matching.proofs.Occurrences.{occurrences-few}
use Rattle.matching.proofs.Received.{received_none, received_more, length-received}
use Rattle.matching.proofs.Letters.{Downward, looks-part, looks-all}
use Rattle.matching.proofs.Machine.{Carried, carries-none, Sound, run_on, run-off, run-stop, positions-are, run-few}
use Rattle.matching.proofs.Find.{Within, within, found-accepted}

-- ---- what windows done add up to

compared-append : (us vs : List Visit) → compared_in (us ++ vs) ≡ compared_in us + compared_in vs
unfolding compared_in
compared-append [] vs = omega arith
compared-append (u ∷ us) vs = omega (arith, compared-append us vs)

positions-append : (us vs : List Visit) → positions_in (us ++ vs) ≡ positions_in us ++ positions_in vs
unfolding positions_in
positions-append [] vs = refl
positions-append (u ∷ us) vs =
    by-test (λ t. cond t (u.start ∷ positions_in (us ++ vs)) (positions_in (us ++ vs)) ≡ cond t (u.start ∷ positions_in us) (positions_in us) ++ positions_in vs) u.window.stands
    (λ _. ap (λ l. u.start ∷ l) (positions-append us vs)) (λ _. positions-append us vs)

positions-one : (v : Visit) → positions_in (v ∷ []) ≡ cond v.window.stands (v.start ∷ []) []
unfolding positions_in
positions-one v = refl

compared-one : (v : Visit) → compared_in (v ∷ []) ≡ v.window.compared
unfolding compared_in
compared-one v = omega arith

-- ---- the loop's invariant

-- the engine is at the state x, with the total and the comparisons so far, and the lent list, which was list₀, as it is now
pub record Progress (e : Engine) (P T list₀ : List ℕ) (x : State) (total compared : ℕ) (list : List ℕ) : Type 0 where
  pub sound : Sound e.steps P T
  pub short : length P ≤ 1024
  pub small : length T ≤ 32768
  pub carried : Carried P T x
  pub done : List Visit
  pub whole : done ++ run_from e.steps P T x ≡ run e.steps P T
  pub counted : total ≡ length (positions_in done)
  pub looked : compared ≡ compared_in done
  pub stored : list ≡ received list₀ (positions_in done)

-- a find that is not refused, and the limits that it keeps
pub record Accepted (e : Engine) (P T scratch : List ℕ) : Type 0 where
  pub none : refusal_of e P T scratch ≡ 0
  pub limits : Within (length P) (length T) (length scratch) (e.entries (length P))

pub accepted : {e : Engine} {P T scratch : List ℕ} {number : ℕ} → number ≡ refusal_of e P T scratch → number ≡ 0 → Accepted e P T scratch
accepted {e} {P} {T} {scratch} is zero = let none = sym is ∙ zero in record { none = none; limits = within (length P) (length T) (length scratch) (e.entries (length P)) none }

-- the same of tests that gave no refusal, whose number is 0
pub accepted-ok : {e : Engine} {P T scratch : List ℕ} → 0 ≡ refusal_of e P T scratch → Accepted e P T scratch
accepted-ok is = accepted is refl

-- before the first window, where the limits are kept
pub begins : {e : Engine} {P T list : List ℕ} {has needs : ℕ} → Within (length P) (length T) has needs → (1 ≤ length P → Sound e.steps P T) → Progress e P T list (at 0 0) 0 0 list
unfolding positions_in compared_in
begins {e} {P} {T} {list} limits sound =
    record {
      sound = sound limits.some;
      short = limits.short;
      small = limits.small;
      carried = carries-none P T 0 limits.some;
      done = [];
      whole = refl;
      counted = refl;
      looked = refl;
      stored = sym (received_none list);
    }

module _ {e : Engine} {P T list₀ : List ℕ} {s q total compared : ℕ} {list : List ℕ} (p : Progress e P T list₀ (at s q) total compared list) (inside : s + length P ≤ length T) where
  -- with one window more done
  more : List Visit
  more = p.done ++ (visit e.steps P T s q ∷ [])

  onward : more ++ run_from e.steps P T (e.steps P T s q).next ≡ run e.steps P T
  unfolding more
  onward =
      append_assoc p.done (visit e.steps P T s q ∷ []) (run_from e.steps P T (e.steps P T s q).next)
      ∙ ap (λ vs. p.done ++ vs) (sym (run_on p.sound s q inside p.carried)) ∙ p.whole

  looked-more : compared + (e.steps P T s q).compared ≡ compared_in more
  unfolding more
  looked-more = omega (arith, p.looked, compared-append p.done (visit e.steps P T s q ∷ []), compared-one (visit e.steps P T s q))

  positions-more : positions_in more ≡ positions_in p.done ++ cond (e.steps P T s q).stands (s ∷ []) []
  unfolding more
  positions-more = positions-append p.done _ ∙ ap (λ l. positions_in p.done ++ l) (positions-one (visit e.steps P T s q))

  stepped : {total' : ℕ} {list' : List ℕ} → total' ≡ length (positions_in more) → list' ≡ received list₀ (positions_in more) → Progress e P T list₀ (e.steps P T s q).next total' (compared + (e.steps P T s q).compared) list'
  stepped counted stored =
      record {
        sound = p.sound;
        short = p.short;
        small = p.small;
        carried = (p.sound.right s q inside p.carried).moves.hands;
        done = more;
        whole = onward;
        counted = counted;
        looked = looked-more;
        stored = stored;
      }

  -- a window that reports: the total grows by 1, and the list receives its start
  pub reported : (e.steps P T s q).stands ≡ true → Progress e P T list₀ (e.steps P T s q).next (total + 1) (compared + (e.steps P T s q).compared) (set list total s)
  reported f =
      let is : positions_in more ≡ positions_in p.done ++ s ∷ [] = positions-more ∙ ap (λ t. positions_in p.done ++ cond t (s ∷ []) []) f in
      stepped (rw is (rw length-append (omega (arith, p.counted)))) (rw (is, p.stored, p.counted) (received_more list₀ (positions_in p.done) s))

  -- a window that does not
  pub missed : (e.steps P T s q).stands ≡ false → Progress e P T list₀ (e.steps P T s q).next total (compared + (e.steps P T s q).compared) list
  missed f =
      let is : positions_in more ≡ positions_in p.done = positions-more ∙ ap (λ t. positions_in p.done ++ cond t (s ∷ []) []) f ∙ append-nil _ in
      stepped (p.counted ∙ ap length (sym is)) (p.stored ∙ ap (received list₀) (sym is))

  -- the same, where the window is known and the comparisons are counted by code
  module _ {v : Window} (is : e.steps P T s q ≡ v) {c : ℕ} (sum : c ≡ compared + v.compared) where
    pub reported-as : v.stands ≡ true → Progress e P T list₀ v.next (total + 1) c (set list total s)
    reported-as f = subst (λ n. Progress e P T list₀ v.next (total + 1) n (set list total s)) (sym sum) (rw is at (reported (rw is f)))

    pub missed-as : v.stands ≡ false → Progress e P T list₀ v.next total c list
    missed-as f = subst (λ n. Progress e P T list₀ v.next total n list) (sym sum) (rw is at (missed (rw is f)))

  -- what code has found of a window compared first to last: the first k letters are equal, and letter k + 1, if there is one, is not
  module _ {x : State} {k c : ℕ} (is : e.steps P T s q ≡ first_to_last P T s q x) (reached : k ≡ reach P T s q) where
    pub hit-up : k ≡ length P → c + q ≡ compared + k → Progress e P T list₀ x (total + 1) c (set list total s)
    hit-up all sum = reported-as is (omega (arith, looks-all (length P - q) (equal_on P T s q) (omega arith))) (eq-eqb (reach P T s q) (length P) (omega arith))

    pub miss-up : k < length P → c + q ≡ compared + k + 1 → Progress e P T list₀ x total c list
    miss-up part sum = missed-as is (omega (arith, looks-part (length P - q) (equal_on P T s q) (omega arith))) (ne_eqb (reach P T s q) (length P) (λ f. omega arith))

    -- both, told by how many letters are equal: a total t, comparisons c and a list l after the window
    pub stepped-up : {t : ℕ} {l : List ℕ} → k ≤ length P → (k < length P → (l ≡ list) × ((t ≡ total) × (c + q ≡ compared + k + 1)))
        → (length P ≤ k → (l ≡ set list total s) × ((t ≡ total + 1) × (c + q ≡ compared + k))) → Progress e P T list₀ x t c l
    stepped-up upto part all =
        ⊎_elim
        (λ h. let w = part h in rw (w.0, w.1.0) (miss-up h w.1.1))
        (λ h. let w = all h in rw (w.0, w.1.0) (hit-up (omega arith) w.1.1))
        (cases_lt k (length P))

  -- of a window compared last to first from letter `count` down: k letters are equal, and the one before them, if there is one, is not
  module _ {x : State} {count k c : ℕ} (is : e.steps P T s q ≡ last_to_first P T s count x) (d : Downward P T s count k) where
    pub hit-down : count ≤ k → c ≡ compared + k → Progress e P T list₀ x (total + 1) c (set list total s)
    hit-down all sum =
        let n : equal_down P T s count ≡ count = omega (arith, d.is, d.upto) in
        reported-as is (omega (arith, d.is, looks-all count (equal_down P T s count) (omega arith))) (eq-eqb (equal_down P T s count) count n)

    pub miss-down : k < count → c ≡ compared + k + 1 → Progress e P T list₀ x total c list
    miss-down part sum =
        let n : equal_down P T s count < count = omega (arith, d.is) in
        missed-as is (omega (arith, d.is, looks-part count (equal_down P T s count) n)) (ne_eqb (equal_down P T s count) count (λ f. omega arith))

    -- both, told by how many letters are equal
    pub stepped-down : {t : ℕ} {l : List ℕ} → (k < count → (l ≡ list) × ((t ≡ total) × (c ≡ compared + k + 1)))
        → (count ≤ k → (l ≡ set list total s) × ((t ≡ total + 1) × (c ≡ compared + k))) → Progress e P T list₀ x t c l
    stepped-down part all =
        ⊎_elim
        (λ h. let w = part h in rw (w.0, w.1.0) (miss-down h w.1.1))
        (λ h. let w = all h in rw (w.0, w.1.0) (hit-down h w.1.1))
        (cases_lt k count)

-- one window done, and moved by d with nothing carried: the engine is past it, and within the text
pub record Stepped (e : Engine) (P T list₀ : List ℕ) (s d total compared : ℕ) (list : List ℕ) : Type 0 where
  pub progress : Progress e P T list₀ (at (s + d) 0) total compared list
  pub ahead : 1 ≤ d
  pub fits : s + d ≤ length T

-- ---- the counters stay small: a total of at most n + 1, and at most m + 1 comparisons for each of n + 1 windows

pub run_small : {w : Steps} {P T : List ℕ} → Sound w P T → length P ≤ 1024 → length T ≤ 32768 → compared_in (run w P T) ≤ 33588225
run_small {w} {P} {T} sound short small =
    omega (arith, run-few sound, mul-le-mul {n₁ = suc (length T)} {m₁ = length P + 1} {n₂ = 32769} {m₂ = 1025} (omega arith) (omega arith))

module _ {e : Engine} {P T list₀ : List ℕ} {x : State} {total compared : ℕ} {list : List ℕ} (p : Progress e P T list₀ x total compared list) where
  pub total-small : total ≤ 32769
  total-small =
      let rest : List Visit = run_from e.steps P T x in
      let all : positions_in p.done ++ positions_in rest ≡ occurrences P T = sym (positions-append p.done rest) ∙ ap positions_in p.whole ∙ positions-are p.sound in
      omega (arith, p.counted, p.small, occurrences-few P T, ap length all, length-append (positions_in p.done) (positions_in rest))

  pub compared-small : compared ≤ 33588225
  compared-small = omega (arith, p.looked, run_small p.sound p.short p.small, ap compared_in p.whole, compared-append p.done (run_from e.steps P T x))

  -- the list keeps its length
  pub same-list : length list ≡ length list₀
  same-list = ap length p.stored ∙ length-received _ _

-- the progress of a run with these bounds, as a loop keeps it: its sums and casts need nothing more
pub record Looping (e : Engine) (P T list₀ : List ℕ) (x : State) (total compared : ℕ) (list : List ℕ) : Type 0 where
  pub progress : Progress e P T list₀ x total compared list
  pub some : 1 ≤ length P
  pub short : length P ≤ 1024
  pub small : length T ≤ 32768
  pub few : total ≤ 32769
  pub looked : compared ≤ 33588225

pub looping : {e : Engine} {P T list₀ : List ℕ} {x : State} {total compared : ℕ} {list : List ℕ} → Progress e P T list₀ x total compared list → Looping e P T list₀ x total compared list
looping p = record { progress = p; some = p.sound.some; short = p.short; small = p.small; few = total-small p; looked = compared-small p }

-- ---- the loop is over: nothing of the run is left

pub record Over (e : Engine) (P T list₀ : List ℕ) (total compared : ℕ) (list : List ℕ) : Type 0 where
  pub state : State
  pub progress : Progress e P T list₀ state total compared list
  pub ended : run_from e.steps P T state ≡ []

-- the next window would pass the text's end
pub past : {e : Engine} {P T list₀ : List ℕ} {s q total compared : ℕ} {list : List ℕ} → Progress e P T list₀ (at s q) total compared list → length T < s + length P → Over e P T list₀ total compared list
past {s = s} {q = q} p h = record { state = at s q; progress = p; ended = run-off p.sound s q h }

-- the engine has stopped
pub stopped : {e : Engine} {P T list₀ : List ℕ} {total compared : ℕ} {list : List ℕ} → Progress e P T list₀ stop total compared list → Over e P T list₀ total compared list
stopped p = record { state = stop; progress = p; ended = run-stop p.sound }

-- all occurrences were found, with the comparisons of the whole run
module _ {e : Engine} {P T list₀ list : List ℕ} {total looked : ℕ} (o : Over e P T list₀ total looked list) where
  all_done : o.progress.done ≡ run e.steps P T
  all_done = sym (append-nil _) ∙ ap (λ vs. o.progress.done ++ vs) (sym o.ended) ∙ o.progress.whole

  all_found : positions_in o.progress.done ≡ occurrences P T
  all_found = ap positions_in all_done ∙ positions-are o.progress.sound

  pub over-total : total ≡ length (occurrences P T)
  over-total = o.progress.counted ∙ ap length all_found

  pub over-compared : looked ≡ compared e P T
  unfolding compared
  over-compared = o.progress.looked ∙ ap compared_in all_done

  pub over-listed : list ≡ received list₀ (occurrences P T)
  over-listed = o.progress.stored ∙ ap (received list₀) all_found

  -- and the find keeps its promise, if the scratch holds the tables
  pub keeps : {scratch scratch' : List ℕ} → refusal_of e P T scratch ≡ 0 → scratch' ≡ received scratch (e.tables P)
      → Found e P T scratch list₀ (record { refusal = 0; total = total; comparisons = looked }) scratch' list
  keeps none tables = found-accepted none over-total over-compared tables over-listed

-- the comparisons of a find that is not refused fit 32 bits
pub compared-fits : (e : Engine) {P T : List ℕ} → Sound e.steps P T → length P ≤ 1024 → length T ≤ 32768 → compared e P T ≤ 33588225
unfolding compared
compared-fits e sound short small = run_small sound short small
