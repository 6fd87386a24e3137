-- Refusals as a table (document 01, "What a refused call hands back"): tests in their order, each with the number with which it refuses.
use Rattle.std.specs.Prelude.{ℕ, Bool, cond, List, [], ◌∷◌}

-- a row: whether its test is met, and its number
abbrev pub Test : Type 0
Test = Bool × ℕ

-- the number of the first row that is met, 0 where none is
unfoldable pub first_met : List Test → ℕ
first_met [] = 0
first_met (t ∷ ts) = cond t.0 t.1 (first_met ts)
