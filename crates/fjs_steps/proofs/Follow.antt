-- What the list of moves is like, for a pattern and a text of any lengths: the moves follow each other from the text's start on (`moves-follow`), so there are at most n - m + 1 of them
-- (`moves-few`). Assumes nothing.
use mathlib.Core.Path.{◌≡◌, refl, ap}
use Prim.Native.Nat.{ℕ, zero, suc, ◌+◌, ◌-◌, ◌≤◌, ◌<◌}
use native.Mathlib.Omega.{arith}
use mathlib.Core.List.{List, [], ◌∷◌, ◌++◌}
use lib.ListN.{length}
use lib.Dec.{leb}
use borrow.Author.Tests.{leb-true, leb-false}
use Rattle.matching.specs.Machine.{State, stop, at, windows, run_from}
use Rattle.matching.proofs.CaseAnalysis.{by-test}
use Rattle.matching.proofs.Machine.{Ahead, Carried, carries-none, windows-on, windows-off, windows-stop, windows-none}
use Rattle.fjs_steps.specs.Fjs.{Rule, step, window}
use Rattle.fjs_steps.specs.Moves.{Move, move_to, moves_in, moves}
use Rattle.fjs_steps.proofs.Sound.{sound}

-- each move is from the start to which the one before it went, or from s, goes on, and is that of a window within the text
abbrev pub Follows : List ℕ → List ℕ → ℕ → List Move → Type 0
Follows P T s [] = Unit {0}
Follows P T s (m ∷ ms) = (m.old ≡ s) × ((s + length P ≤ length T) × ((s < m.new) × Follows P T m.new ms))

-- so do the moves from a state on; a state that has stopped makes none
abbrev FollowsFrom : List ℕ → List ℕ → State → List Move → Type 0
FollowsFrom P T stop ms = ms ≡ []
FollowsFrom P T (at s q) ms = Follows P T s ms

module _ (P T : List ℕ) where
  -- the move of a window at s to a state ahead, and those from there on
  one_more : (s : ℕ) (x : State) (rule : Rule) (ms : List Move) → s + length P ≤ length T → Ahead s x → FollowsFrom P T x ms → Follows P T s (move_to s x rule ++ ms)
  one_more s stop rule ms inside ahead none = rw none tt
  one_more s (at s' q') rule ms inside ahead more = (refl, (inside, (ahead, more)))

  module _ (some : 1 ≤ length P) where
    from-here : (f : ℕ) (x : State) → Carried P T x → FollowsFrom P T x (moves_in P T (windows f window P T x))
    unfolding moves_in
    from-here zero stop c = ap (moves_in P T) (windows-stop zero window P T)
    from-here zero (at s q) c = rw (windows-none window P T (at s q)) tt
    from-here (suc f) stop c = ap (moves_in P T) (windows-stop (suc f) window P T)
    from-here (suc f) (at s q) c =
        by-test (λ _. Follows P T s (moves_in P T (windows (suc f) window P T (at s q)))) (leb (s + length P) (length T))
        (λ e.
        let inside = leb-true (s + length P) (length T) e in
        let m = ((sound P T some).right s q inside c).moves in
        rw (windows-on f window P T s q inside) (one_more s (window P T s q).next (step P T s q).rule _ inside m.ahead (from-here f (window P T s q).next m.hands)))
        (λ e. rw (windows-off (suc f) window P T s q (leb-false (s + length P) (length T) e)) tt)

    pub moves-follow : Follows P T 0 (moves P T)
    unfolding run_from
    moves-follow = from-here (suc (length T)) (at 0 0) (carries-none P T 0 some)

    few-from : (s : ℕ) (ms : List Move) → Follows P T s ms → length ms ≤ length T + 1 - (s + length P)
    few-from s [] f = omega arith
    few-from s (m ∷ ms) f = omega (arith, f.1.0, f.1.1.0, few-from m.new ms f.1.1.1)

    pub moves-few : length (moves P T) ≤ length T + 1 - length P
    moves-few = omega (arith, few-from 0 (moves P T) moves-follow)
