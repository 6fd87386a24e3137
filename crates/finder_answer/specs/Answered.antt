-- What the finder program prints for a phrase and a text (document 01, "The finder program").
use Rattle.std.specs.Prelude.{ℕ, cond, List, [], ◌∷◌, ◌++◌, length, get_or, take, eqb}
use Rattle.matching.specs.Occurrences.{occurrences}
use Rattle.matching.specs.Find.{Engine, compared, refusal}
use Rattle.naive.specs.Naive.{naive}
use Rattle.kmp.specs.Kmp.{kmp}
use Rattle.horspool.specs.Horspool.{horspool}
use Rattle.sunday.specs.Sunday.{sunday}
use Rattle.fjs_steps.specs.Fjs.{fjs}
use Rattle.double_window.specs.DoubleWindow.{double_window}
use Rattle.boyer_moore.specs.BoyerMoore.{boyer_moore}
use Rattle.improved_fjs.specs.ImprovedFjs.{improved_fjs}
use Rattle.finder_lines.specs.Lines.{line_of, refused_line}

-- an engine and the name that its line starts with
pub record Row : Type 0 where
  pub name : List ℕ
  pub engine : Engine

-- the engines in the order of their lines: after `fjs` come `bm`, `double` and, last, `improved` (document 02, (ii), (v) and (x)); the names are `naive`, `kmp`, `horspool`, `sunday`,
-- `fjs`, `bm`, `double` and `improved` in ASCII
unfoldable pub rows : List Row
rows =
    record { name = 110 ∷ 97 ∷ 105 ∷ 118 ∷ 101 ∷ []; engine = naive }
    ∷ record { name = 107 ∷ 109 ∷ 112 ∷ []; engine = kmp }
    ∷ record { name = 104 ∷ 111 ∷ 114 ∷ 115 ∷ 112 ∷ 111 ∷ 111 ∷ 108 ∷ []; engine = horspool }
    ∷ record { name = 115 ∷ 117 ∷ 110 ∷ 100 ∷ 97 ∷ 121 ∷ []; engine = sunday }
    ∷ record { name = 102 ∷ 106 ∷ 115 ∷ []; engine = fjs }
    ∷ record { name = 98 ∷ 109 ∷ []; engine = boyer_moore }
    ∷ record { name = 100 ∷ 111 ∷ 117 ∷ 98 ∷ 108 ∷ 101 ∷ []; engine = double_window }
    ∷ record { name = 105 ∷ 109 ∷ 112 ∷ 114 ∷ 111 ∷ 118 ∷ 101 ∷ 100 ∷ []; engine = improved_fjs }
    ∷ []

-- the row of that number, the first being 0
abbrev pub row_at : ℕ → Row
row_at number = get_or rows number (record { name = []; engine = naive })

-- the line of one engine: its name, the total, the comparisons, and at most the first 4,096 places
unfoldable pub engine_line : Row → List ℕ → List ℕ → List (List ℕ)
engine_line row P T = line_of row.name (length (occurrences P T)) (compared row.engine P T) (take 4096 (occurrences P T))

-- the lines of these engines, one after another
unfoldable pub engine_lines : List Row → List ℕ → List ℕ → List (List ℕ)
engine_lines [] P T = []
engine_lines (row ∷ others) P T = engine_line row P T ++ engine_lines others P T

-- the lines for a phrase and a text: one line where they are refused (2 to 4; the finder's scratch is never too short), otherwise one an engine
unfoldable pub answered : List ℕ → List ℕ → List (List ℕ)
answered P T = let number : ℕ = refusal (length P) (length T) 0 0 in cond (eqb number 0) (engine_lines rows P T) (refused_line number)

-- the size of the output that is asked for: enough for every answer (`answered-fits` of proofs/Fits.antt), and for ten lines
abbrev pub output_size : ℕ
output_size = 262144
