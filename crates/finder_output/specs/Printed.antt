-- What the finder program prints for an input (document 01, "The finder program").
use Rattle.std.specs.Prelude.{◌≡◌, ℕ, cond, List, [], ◌∷◌, ◌++◌, length, drop, eqb, ltb}
use Rattle.pieces.specs.Pieces.{joined}
use Rattle.finder_lines.specs.Lines.{refused_line}
use Rattle.finder_answer.specs.Answered.{answered, output_size}

-- the phrase: the input up to the first byte 10, all of it where there is none
unfoldable pub phrase_in : List ℕ → List ℕ
phrase_in [] = []
phrase_in (byte ∷ input) = cond (eqb byte 10) [] (byte ∷ phrase_in input)

-- the text: what stands after the first byte 10, nothing where there is none
unfoldable pub text_in : List ℕ → List ℕ
text_in [] = []
text_in (byte ∷ input) = cond (eqb byte 10) input (text_in input)

-- all that is printed for an input: one above 33,793 bytes is refused with 4, before any other test
unfoldable pub printed : List ℕ → List ℕ
printed input = joined (cond (ltb 33793 (length input)) (refused_line 4) (answered (phrase_in input) (text_in input)))

-- what is given back, and the lent output afterwards: the number of bytes printed, and these bytes at the output's front with the rest kept. A shorter output is left as it was, and 0
-- given back
pub record Printed (input output : List ℕ) (r : ℕ) (output' : List ℕ) : Type 0 where
  pub count : r ≡ cond (ltb (length output) output_size) 0 (length (printed input))
  pub left : output' ≡ cond (ltb (length output) output_size) output (printed input ++ drop (length (printed input)) output)
