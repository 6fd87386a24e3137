-- The finder's lines (document 01, "The finder program"), piece by piece.
use Rattle.std.specs.Prelude.{ℕ, zero, suc, ◌+◌, ◌/◌, ◌%◌, cond, List, [], ◌∷◌, ◌++◌, map, take, ltb}

-- decimal digits, most significant first; the first argument bounds their number
unfoldable pub decimal_in : ℕ → ℕ → List ℕ
decimal_in zero n = []
decimal_in (suc f) n = let more = decimal_in f (n / 10) ++ (48 + n % 10) ∷ [] in cond (ltb n 10) ((48 + n) ∷ []) more

-- the decimal digits of n; n + 1 is more than enough for their number
unfoldable pub decimal : ℕ → List ℕ
unfolding decimal_in
decimal n = decimal_in (suc n) n

-- a number's field: one space, and its digits
abbrev pub field : ℕ → List ℕ
field n = 32 ∷ decimal n

-- the fields of the first `count` numbers of a list
unfoldable pub fields : ℕ → List ℕ → List (List ℕ)
unfolding decimal
fields count list = map field (take count list)

-- an engine's line, piece by piece: its name, the total, the comparisons, the places in the list, and byte 10
unfoldable pub line_of : List ℕ → ℕ → ℕ → List ℕ → List (List ℕ)
unfolding fields
line_of name total comparisons list = name ∷ field total ∷ field comparisons ∷ (fields total list ++ ((10 ∷ []) ∷ []))

-- the line of a refusal: `refused` and its number
unfoldable pub refused_line : ℕ → List (List ℕ)
unfolding decimal
refused_line number = (114 ∷ 101 ∷ 102 ∷ 117 ∷ 115 ∷ 101 ∷ 100 ∷ []) ∷ field number ∷ (10 ∷ []) ∷ []
