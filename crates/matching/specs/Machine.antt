-- The window machine: every engine slides a window over the text. An engine is known by what it does in one window; this file runs the windows one after another.
-- The laws for any engine are in proofs/Machine.antt: the bound on the number of windows is never met, and the reported positions are the occurrences.
use Rattle.std.specs.Prelude.{ℕ, zero, suc, ◌+◌, ◌-◌, Bool, cond, List, [], ◌∷◌, length, eqb, leb}
use Rattle.matching.specs.Letters.{equal_on, reach, equal_down, looks}

-- where an engine is: it has stopped, or its window starts at s and carries q letters, which are known to be equal
pub data State : Type 0 where
  stop : State
  at : ℕ → ℕ → State

-- what an engine does in one window: the looks it makes at a pair of letters, whether it reports an occurrence at the window's start, and where it goes next
pub record Window : Type 0 where
  pub compared : ℕ
  pub stands : Bool
  pub next : State

-- an engine's published steps: the window of a pattern P and a text T at start s, with q letters carried
abbrev pub Steps : Type 0
Steps = List ℕ → List ℕ → ℕ → ℕ → Window

-- a window of a run, with its start and the letters that it carries
pub record Visit : Type 0 where
  pub start : ℕ
  pub carried : ℕ
  pub window : Window

-- the window that these steps make at s, with q letters carried
abbrev pub visit : Steps → List ℕ → List ℕ → ℕ → ℕ → Visit
visit w P T s q = record { start = s; carried = q; window = w P T s q }

-- the windows from a state on, until the engine stops or its next window would pass the text's end; the first argument bounds their number
unfoldable pub windows : ℕ → Steps → List ℕ → List ℕ → State → List Visit
windows zero w P T x = []
windows (suc f) w P T stop = []
windows (suc f) w P T (at s q) =
    let on : List Visit = visit w P T s q ∷ windows f w P T (w P T s q).next in
    cond (leb (s + length P) (length T)) on []

-- the same with room for n + 1 windows, which is enough where each starts past the one before it (the law `run_on`)
unfoldable pub run_from : Steps → List ℕ → List ℕ → State → List Visit
unfolding windows
run_from w P T x = windows (suc (length T)) w P T x

-- an engine's run: the first window is at the text's start and carries nothing
abbrev pub run : Steps → List ℕ → List ℕ → List Visit
run w P T = run_from w P T (at 0 0)

-- the comparisons of a run: the sum over its windows
unfoldable pub compared_in : List Visit → ℕ
compared_in [] = 0
compared_in (v ∷ vs) = v.window.compared + compared_in vs

-- the positions that a run reports, in the order of its windows
unfoldable pub positions_in : List Visit → List ℕ
positions_in [] = []
positions_in (v ∷ vs) = cond v.window.stands (v.start ∷ positions_in vs) (positions_in vs)

-- ---- the two ways in which a window is compared

-- first to last, from the letter after the q carried: the pattern stands where all m letters are equal
abbrev pub first_to_last : List ℕ → List ℕ → ℕ → ℕ → State → Window
first_to_last P T s q next = record { compared = looks (length P - q) (equal_on P T s q); stands = eqb (reach P T s q) (length P); next = next }

-- last to first, from letter k down, where the letters after letter k are known to be equal: the pattern stands where all k letters are equal
abbrev pub last_to_first : List ℕ → List ℕ → ℕ → ℕ → State → Window
last_to_first P T s k next = record { compared = looks k (equal_down P T s k); stands = eqb (equal_down P T s k) k; next = next }
