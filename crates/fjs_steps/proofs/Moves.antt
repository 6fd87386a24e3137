-- The moves of the engine's run, window by window, and what a lent list of moves holds on the way. Assumes nothing.
use mathlib.Core.Path.{◌≡◌, refl, sym, ap, ap₂, ◌∙◌}
use Prim.Native.Nat.{ℕ, ◌+◌, ◌*◌, ◌/◌, ◌≤◌, ◌<◌}
use native.Mathlib.Omega.{arith}
use mathlib.Core.Bool.{cond}
use mathlib.Core.List.{List, [], ◌∷◌, ◌++◌, append-nil, append_assoc}
use lib.ListN.{length, set, take, length-append, length-set}
use lib.Seq.{take-nil, take_all, take-append-le}
use lib.Dec.{leb}
use borrow.Author.Tests.{leb-true, leb-false}
use Rattle.matching.specs.Machine.{State, stop, at, run_from}
use Rattle.matching.specs.Received.{received}
use Rattle.matching.proofs.CaseAnalysis.{by-test}
use Rattle.matching.proofs.Received.{received_none, received-three, length-received}
use Rattle.matching.proofs.Machine.{run_on}
use Rattle.matching.proofs.Progress.{Progress}
use Rattle.fjs_steps.specs.Fjs.{Rule, step, window, fjs}
use Rattle.fjs_steps.specs.Moves.{Move, move_to, moves_in, moves, rule_number, numbers, fitting, told, put_move}

-- ---- three numbers a move

numbers-length : (ms : List Move) → length (numbers ms) ≡ 3 * length ms
unfolding numbers
numbers-length [] = refl
numbers-length (m ∷ ms) = omega (arith, numbers-length ms)

numbers_more : (ms : List Move) (m : Move) → numbers (ms ++ m ∷ []) ≡ numbers ms ++ m.old ∷ m.new ∷ rule_number m.rule ∷ []
unfolding numbers
numbers_more [] m = refl
numbers_more (l ∷ ms) m = ap (λ (ns : List ℕ). l.old ∷ l.new ∷ rule_number l.rule ∷ ns) (numbers_more ms m)

-- the list keeps its length
pub put-long : (list : List ℕ) (index old new rule : ℕ) → length (put_move list index old new rule) ≡ length list
put-long list index old new rule =
    by-test (λ t. length (cond t (set (set (set list (3 * index) old) (3 * index + 1) new) (3 * index + 2) rule) list) ≡ length list) (leb (3 * index + 3) (length list)) (λ _. simp length-set) (λ _. refl)

-- one move more at the index after those noted: there is room for it, and it is noted, or there is none, and it makes no difference
pub fitting-more : (list : List ℕ) (ms : List Move) (m : Move) {count : ℕ} → count ≡ length ms
    → put_move (received list (fitting (length list) ms)) count m.old m.new (rule_number m.rule) ≡ received list (fitting (length list) (ms ++ m ∷ []))
fitting-more list ms m {count} e =
    let k : ℕ = length list / 3 in
    let kept : List ℕ = received list (fitting (length list) ms) in
    let size : length kept ≡ length list = length-received list (fitting (length list) ms) in
    by-test (λ _. put_move kept count m.old m.new (rule_number m.rule) ≡ received list (fitting (length list) (ms ++ m ∷ []))) (leb (3 * count + 3) (length kept))
    (λ t.
    let room : 3 * count + 3 ≤ length list = omega (arith, leb-true (3 * count + 3) (length kept) t) in
    let all : take k ms ≡ ms = take_all k ms (omega arith) in
    let more : take k (ms ++ m ∷ []) ≡ ms ++ m ∷ [] = take_all k (ms ++ m ∷ []) (omega (arith, length-append ms (m ∷ []))) in
    rw (t, all, more) (received-three list (numbers ms) (3 * count) m.old m.new (rule_number m.rule) (omega (arith, numbers-length ms)) ∙ ap (received list) (sym (numbers_more ms m))))
    (λ t.
    let full : length list < 3 * count + 3 = omega (arith, leb-false (3 * count + 3) (length kept) t) in
    rw t (ap (λ (l : List Move). received list (numbers l)) (sym (take-append-le k ms (m ∷ []) (omega arith)))))

-- ---- what is told of moves

module _ {A : Type 0} (after : A → ℕ → ℕ → ℕ → A) where
  -- of one move more
  told_more : (a : A) (ms : List Move) (m : Move) → told after a (ms ++ m ∷ []) ≡ after (told after a ms) m.old m.new (rule_number m.rule)
  unfolding told
  told_more a [] m = refl
  told_more a (l ∷ ms) m = told_more (after a l.old l.new (rule_number l.rule)) ms m

  -- what no move changes stays
  pub told-keeps : {B : Type 0} (part : A → B) → ((a : A) (old new rule : ℕ) → part (after a old new rule) ≡ part a) → (a : A) (ms : List Move) → part (told after a ms) ≡ part a
  unfolding told
  told-keeps part same a [] = refl
  told-keeps part same a (m ∷ ms) = told-keeps part same (after a m.old m.new (rule_number m.rule)) ms ∙ same a m.old m.new (rule_number m.rule)

  -- a list that receives each move at the index after those before it, and their count
  module _ (kept : A → List ℕ) (count : A → ℕ) (put : (a : A) (old new rule : ℕ) → kept (after a old new rule) ≡ put_move (kept a) (count a) old new rule)
      (counts : (a : A) (old new rule : ℕ) → count (after a old new rule) ≡ count a + 1) where
    listed-on : (list : List ℕ) (done ms : List Move) (a : A) → kept a ≡ received list (fitting (length list) done) → count a ≡ length done
        → (kept (told after a ms) ≡ received list (fitting (length list) (done ++ ms))) × (count (told after a ms) ≡ length (done ++ ms))
    unfolding told
    listed-on list done [] a e f = rw append-nil (e, f)
    listed-on list done (m ∷ ms) a e f =
        let next = after a m.old m.new (rule_number m.rule) in
        let one : kept next ≡ received list (fitting (length list) (done ++ m ∷ [])) =
        put a m.old m.new (rule_number m.rule) ∙ ap (λ l. put_move l (count a) m.old m.new (rule_number m.rule)) e ∙ fitting-more list done m f in
        let on = listed-on list (done ++ m ∷ []) ms next one (omega (arith, counts a m.old m.new (rule_number m.rule), f, length-append done (m ∷ []))) in
        rw append_assoc at on

    pub told-listed : (a : A) (ms : List Move) → count a ≡ 0 → (kept (told after a ms) ≡ received (kept a) (fitting (length (kept a)) ms)) × (count (told after a ms) ≡ length ms)
    unfolding numbers
    told-listed a ms none = listed-on (kept a) [] ms a (sym (ap (λ (l : List Move). received (kept a) (numbers l)) (take-nil (length (kept a) / 3)) ∙ received_none (kept a))) none

-- ---- along the run: the moves so far and those of the rest of the run from here are all

-- nothing of the run is left
pub whole-done : (P T : List ℕ) (x : State) (done : List Move) → done ++ moves_in P T (run_from window P T x) ≡ moves P T → run_from window P T x ≡ [] → done ≡ moves P T
unfolding moves_in
whole-done P T x done whole ended = sym (append-nil done) ∙ ap (λ vs. done ++ moves_in P T vs) (sym ended) ∙ whole

-- one window more
module _ {P T list₀ list : List ℕ} {s q total compared : ℕ} (p : Progress fjs P T list₀ (at s q) total compared list) (inside : s + length P ≤ length T) (done : List Move)
    (whole : done ++ moves_in P T (run_from window P T (at s q)) ≡ moves P T) {x : State} (next : (window P T s q).next ≡ x) {rule : Rule} (by : (step P T s q).rule ≡ rule) where
  pub onward : done ++ (move_to s x rule ++ moves_in P T (run_from window P T x)) ≡ moves P T
  unfolding moves_in
  onward =
      ap (λ ms. done ++ ms)
      (ap₂ (λ y r. move_to s y r ++ moves_in P T (run_from window P T y)) (sym next) (sym by) ∙ ap (moves_in P T) (sym (run_on p.sound s q inside p.carried)))
      ∙ whole

-- and what was told of them
pub record Noted {A : Type 0} (after : A → ℕ → ℕ → ℕ → A) (P T : List ℕ) (a₀ : A) (x : State) (a : A) : Type 0 where
  pub done : List Move
  pub whole : done ++ moves_in P T (run_from window P T x) ≡ moves P T
  pub noted : a ≡ told after a₀ done

module _ {A : Type 0} {after : A → ℕ → ℕ → ℕ → A} {P T : List ℕ} {a₀ : A} where
  pub noted-none : Noted after P T a₀ (at 0 0) a₀
  unfolding told
  noted-none = record { done = []; whole = refl; noted = refl }

  -- nothing of the run is left
  pub all-noted : {x : State} {a : A} → Noted after P T a₀ x a → run_from window P T x ≡ [] → a ≡ told after a₀ (moves P T)
  all-noted {x} n ended = n.noted ∙ ap (told after a₀) (whole-done P T x n.done n.whole ended)

  -- a window that stops makes none
  pub noted-stop : {list₀ list : List ℕ} {s q total compared : ℕ} {a : A} → Progress fjs P T list₀ (at s q) total compared list → s + length P ≤ length T → Noted after P T a₀ (at s q) a
      → (window P T s q).next ≡ stop → Noted after P T a₀ stop a
  noted-stop p inside n next = record { done = n.done; whole = onward p inside n.done n.whole next refl; noted = n.noted }

  -- a window that goes on makes one
  pub noted_more : {list₀ list : List ℕ} {s q total compared s' q' : ℕ} {a : A} {rule : Rule} → Progress fjs P T list₀ (at s q) total compared list → s + length P ≤ length T
      → Noted after P T a₀ (at s q) a → (window P T s q).next ≡ at s' q' → (step P T s q).rule ≡ rule → Noted after P T a₀ (at s' q') (after a s s' (rule_number rule))
  noted_more {s = s} {s' = s'} {q' = q'} {rule = rule} p inside n next by =
      let m : Move = record { old = s; new = s'; rule = rule } in
      record {
        done = n.done ++ m ∷ [];
        whole = append_assoc n.done (m ∷ []) (moves_in P T (run_from window P T (at s' q'))) ∙ onward p inside n.done n.whole next by;
        noted = ap (λ (b : A). after b s s' (rule_number rule)) n.noted ∙ sym (told_more after a₀ n.done m);
      }
