-- What the program prints (document 02, (iv)): page 15's 256 entries, sixteen to a line ended by byte 10, in decimal, one space between.
use Rattle.std.specs.Prelude.{ℕ, zero, suc, ◌%◌, cond, List, [], ◌∷◌, ◌++◌, eqb}
use Rattle.fold.specs.Fold.{folded15}
use Rattle.finder_lines.specs.Lines.{decimal}

-- what follows the entry of a letter: byte 10 after the sixteenth of a line, and a space after any other
unfoldable pub after : ℕ → ℕ
after letter = cond (eqb (letter % 16) 15) 10 32

-- the entries of the letters from 0 on, n of them, piece by piece
unfoldable pub entries : ℕ → List (List ℕ)
unfolding decimal folded15 after
entries zero = []
entries (suc n) = entries n ++ (decimal (folded15 n) ∷ (after n ∷ []) ∷ [])
