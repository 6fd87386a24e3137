-- The step by the table: from a state's number and one letter the next state's number, and the number of the phrases that end there. That it is the step of the states that the numbers stand for is
-- shown in proofs/Steps.antt (`step_is`).
use Rattle.std.specs.Prelude.{ℕ, zero, suc, cond, List, eqb, ltb}
use Rattle.phrases.specs.Phrases.{Step}
use Rattle.tries.specs.Tables.{letter_at, child_at, sibling_at, fail_at}
use Rattle.tries.specs.Links.{bits_at}
use Rattle.tries.specs.Rows.{class_at, row_at}

-- of state x and the siblings below it the first with letter c, 0 where there is none. So many are looked at; siblings fall, so x of them are all
unfoldable pub child_from : ℕ → List ℕ → ℕ → ℕ → ℕ
child_from zero t c x = 0
child_from (suc looks) t c x = cond (eqb x 0) 0 (cond (eqb (letter_at t x) c) x (child_from looks t c (sibling_at t x)))

-- the child of state s by letter c, 0 where it has none
abbrev pub child_of : List ℕ → ℕ → ℕ → ℕ
child_of t s c = child_from (child_at t s) t c (child_at t s)

-- the state after letter c: by the row of state s where it has one; else its child by c, or, where it has none, from its fail link on. So many links are taken; they fall, so s of them are all
unfoldable pub state_from : ℕ → List ℕ → ℕ → ℕ → ℕ → ℕ → ℕ
unfolding child_from
state_from zero t w count c s = row_at t w s (class_at t c)
state_from (suc links) t w count c s =
    let below = state_from links t w count c (fail_at t s) in
    cond (ltb s count) (row_at t w s (class_at t c)) (cond (eqb (child_of t s c) 0) below (child_of t s c))

-- the state after letter c from state s, with as many links as can be needed
abbrev pub state_after : List ℕ → ℕ → ℕ → ℕ → ℕ → ℕ
state_after t w count s c = state_from s t w count c s

-- the step, with w entries in a row and rows for the first `count` states
abbrev pub step_on : List ℕ → ℕ → ℕ → ℕ → ℕ → Step ℕ
step_on t w count s c = record { state = state_after t w count s c; ended = bits_at t (state_after t w count s c) }
