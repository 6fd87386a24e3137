-- The moves along the run as a lent list holds them, the first that fit, with their count. Assumes nothing.
use mathlib.Core.Path.{◌≡◌, refl, sym, ap, ◌∙◌}
use Prim.Native.Nat.{ℕ, ◌+◌, ◌/◌, ◌≤◌}
use native.Mathlib.Omega.{arith}
use mathlib.Core.List.{List, [], ◌∷◌, ◌++◌, append_assoc}
use lib.ListN.{length, length-append}
use lib.Seq.{take-nil}
use Rattle.matching.specs.Machine.{State, stop, at, run_from}
use Rattle.matching.specs.Received.{received}
use Rattle.matching.proofs.Received.{received_none}
use Rattle.matching.proofs.Progress.{Progress}
use Rattle.fjs_steps.specs.Fjs.{Rule, step, window, fjs}
use Rattle.fjs_steps.specs.Moves.{Move, moves_in, moves, rule_number, numbers, fitting, put_move}
use Rattle.fjs_steps.proofs.Moves.{fitting-more, whole-done, onward}

-- the moves so far and those of the rest of the run from here are all, and the list holds those so far that fit
pub record Noted (P T noted₀ : List ℕ) (x : State) (count : ℕ) (noted : List ℕ) : Type 0 where
  pub done : List Move
  pub whole : done ++ moves_in P T (run_from window P T x) ≡ moves P T
  pub counted : count ≡ length done
  pub kept : noted ≡ received noted₀ (fitting (length noted₀) done)

pub noted-none : (P T noted : List ℕ) → Noted P T noted (at 0 0) 0 noted
unfolding numbers
noted-none P T noted = record { done = []; whole = refl; counted = refl; kept = sym (ap (λ (l : List Move). received noted (numbers l)) (take-nil (length noted / 3)) ∙ received_none noted) }

module _ {P T noted₀ noted : List ℕ} {x : State} {count : ℕ} (n : Noted P T noted₀ x count noted) where
  -- nothing of the run is left
  module _ (ended : run_from window P T x ≡ []) where
    all_done : n.done ≡ moves P T
    all_done = whole-done P T x n.done n.whole ended

    pub all-counted : count ≡ length (moves P T)
    all-counted = n.counted ∙ ap length all_done

    pub all-kept : noted ≡ received noted₀ (fitting (length noted₀) (moves P T))
    all-kept = n.kept ∙ ap (λ ms. received noted₀ (fitting (length noted₀) ms)) all_done

-- a window that stops makes none
pub noted-stop : {P T list₀ list noted₀ noted : List ℕ} {s q total compared count : ℕ} → Progress fjs P T list₀ (at s q) total compared list → s + length P ≤ length T → Noted P T noted₀ (at s q) count noted
    → (window P T s q).next ≡ stop → Noted P T noted₀ stop count noted
noted-stop p inside n next = record { done = n.done; whole = onward p inside n.done n.whole next refl; counted = n.counted; kept = n.kept }

-- a window that goes on makes one
pub noted_more : {P T list₀ list noted₀ noted : List ℕ} {s q total compared count s' q' : ℕ} {rule : Rule} → Progress fjs P T list₀ (at s q) total compared list → s + length P ≤ length T
    → Noted P T noted₀ (at s q) count noted → (window P T s q).next ≡ at s' q' → (step P T s q).rule ≡ rule
    → Noted P T noted₀ (at s' q') (count + 1) (put_move noted count s s' (rule_number rule))
noted_more {P} {T} {noted₀ = noted₀} {noted = noted} {s = s} {count = count} {s' = s'} {q' = q'} {rule = rule} p inside n next by =
    let m : Move = record { old = s; new = s'; rule = rule } in
    record {
      done = n.done ++ m ∷ [];
      whole = append_assoc n.done (m ∷ []) (moves_in P T (run_from window P T (at s' q'))) ∙ onward p inside n.done n.whole next by;
      counted = omega (arith, n.counted, length-append n.done (m ∷ []));
      kept = ap (λ (l : List ℕ). put_move l count s s' (rule_number rule)) n.kept ∙ fitting-more noted₀ n.done m n.counted;
    }
