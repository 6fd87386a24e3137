-- The moves of a window (document 02, (xi)): they are those of source document 001, Algorithm 3, read off the engine's run. A window that goes on moves, also where the window that
-- it moves to would pass the text's end and is not looked at; a window that stops, since no letter follows it, does not.
use Rattle.std.specs.Prelude.{ℕ, ◌+◌, ◌*◌, ◌/◌, cond, List, [], ◌∷◌, ◌++◌, length, set, take, leb}
use Rattle.matching.specs.Machine.{State, stop, at, Visit, run}
use Rattle.fjs_steps.specs.Fjs.{Rule, sunday, kmp, step, window}

-- from which start to which, and by which rule
pub record Move : Type 0 where
  pub old : ℕ
  pub new : ℕ
  pub rule : Rule

-- the move of a window at s, by the state to which it goes on: none where it stops
abbrev pub move_to : ℕ → State → Rule → List Move
move_to s stop rule = []
move_to s (at s' q') rule = record { old = s; new = s'; rule = rule } ∷ []

-- the moves of a run's windows, in their order
unfoldable pub moves_in : List ℕ → List ℕ → List Visit → List Move
unfolding step
moves_in P T [] = []
moves_in P T (v ∷ vs) = move_to v.start v.window.next (step P T v.start v.carried).rule ++ moves_in P T vs

-- all moves of the engine
abbrev pub moves : List ℕ → List ℕ → List Move
moves P T = moves_in P T (run window P T)

-- ---- three numbers a move

-- the rules by their numbers
abbrev pub rule_number : Rule → ℕ
rule_number sunday = 1
rule_number kmp = 2

-- the moves as a list has them: old start, new start, rule
unfoldable pub numbers : List Move → List ℕ
numbers [] = []
numbers (m ∷ ms) = m.old ∷ m.new ∷ rule_number m.rule ∷ numbers ms

-- the first whole moves that fit a list of so many entries
abbrev pub fitting : ℕ → List Move → List ℕ
fitting entries ms = numbers (take (entries / 3) ms)

-- what is told of moves one after another, as it is after them: `after` says what it is after one move, from an old start to a new one by a rule. Not part of any public promise
unfoldable pub told : {A : Type 0} → (A → ℕ → ℕ → ℕ → A) → A → List Move → A
told after a [] = a
told after a (m ∷ ms) = told after (after a m.old m.new (rule_number m.rule)) ms

-- a list of moves with the three numbers of a move set at its index, where it has room for all three. Not part of any public promise
abbrev pub put_move : List ℕ → ℕ → ℕ → ℕ → ℕ → List ℕ
put_move list index old new rule = cond (leb (3 * index + 3) (length list)) (set (set (set list (3 * index) old) (3 * index + 1) new) (3 * index + 2) rule) list
