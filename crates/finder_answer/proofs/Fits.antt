-- All that is printed for a phrase and a text fits an output of `output_size` bytes: eight lines of at most 24,600 bytes each, or one refusal. Assumes nothing.
use mathlib.Core.Path.{ap}
use Prim.Native.Nat.{ℕ, ◌*◌, ◌≤◌, ◌<◌}
use native.Mathlib.Omega.{arith}
use native.Mathlib.Nat.{suc-mul}
use mathlib.Core.Bool.{cond}
use mathlib.Core.List.{List, [], ◌∷◌}
use lib.ListN.{length, get_or, take, drop, length-append, length-take}
use lib.Seq.{get_or-take}
use lib.Dec.{eqb}
use borrow.Author.Tests.{eqb-true}
use Rattle.matching.specs.Occurrences.{occurrences}
use Rattle.matching.specs.Find.{compared, refusal}
use Rattle.matching.proofs.CaseAnalysis.{by-test}
use Rattle.matching.proofs.Occurrences.{occurrences-few, occurrences-below}
use Rattle.matching.proofs.Machine.{Sound}
use Rattle.matching.proofs.Find.{Within, within, refusal-most}
use Rattle.matching.proofs.Progress.{compared-fits}
use Rattle.naive.proofs.Sound as naive
use Rattle.kmp.proofs.Sound as kmp
use Rattle.horspool.proofs.Sound as horspool
use Rattle.sunday.proofs.Sound as sunday
use Rattle.fjs_steps.proofs.Sound as fjs
use Rattle.double_window.proofs.Sound as double
use Rattle.boyer_moore.proofs.Sound as bm
use Rattle.improved_fjs.proofs.Sound as improved
use Rattle.pieces.specs.Pieces.{joined}
use Rattle.pieces.proofs.Laid.{joined-append}
use Rattle.finder_lines.specs.Lines.{fields, refused_line}
use Rattle.finder_lines.proofs.Decimal.{tens, decimal-short}
use Rattle.finder_lines.proofs.Lengths.{fields-short, line-length, refused-length}
use Rattle.finder_answer.specs.Answered.{Row, rows, engine_line, engine_lines, answered, output_size}

-- a refusal's line
pub refused-fits : (number : ℕ) → number < 10 → length (joined (refused_line number)) ≤ output_size
unfolding tens
refused-fits number h = omega (arith, refused-length number, decimal-short 0 number h)

-- what is asked of each engine: a short name, and steps that are right
abbrev Fit : List ℕ → List ℕ → List Row → Type 0
Fit P T [] = Unit {0}
Fit P T (row ∷ others) = ((length row.name ≤ 8) × Sound row.engine.steps P T) × Fit P T others

module _ (P T : List ℕ) (short : length P ≤ 1024) (small : length T ≤ 32768) where
  -- the places: 4,096 numbers of at most 5 digits, with a space before each
  places-fit : (total : ℕ) → length (joined (fields total (take 4096 (occurrences P T)))) ≤ 24576
  unfolding tens
  places-fit total =
      let places : List ℕ = take 4096 (occurrences P T) in
      let many : length places ≤ 4096 = omega (arith, length-take 4096 (occurrences P T)) in
      let few : length places ≤ length (occurrences P T) = omega (arith, length-take 4096 (occurrences P T)) in
      omega (
        arith,
        fields-short 6 total places
            (λ i h. omega (arith, decimal-short 4 (get_or places i 0) (omega (arith, get_or-take 4096 (occurrences P T) i 0 (omega arith), occurrences-below P T i (omega arith))))),
      )

  -- an engine's line: a name of at most 8 bytes, a total of at most 5 digits, comparisons of at most 8 digits, the places, and byte 10
  line-fits : (row : Row) → length row.name ≤ 8 → Sound row.engine.steps P T → length (joined (engine_line row P T)) ≤ 24600
  unfolding engine_line tens
  line-fits row name sound =
      let total : ℕ = length (occurrences P T) in
      let looked : ℕ = compared row.engine P T in
      omega
      (arith, line-length row.name total looked (take 4096 (occurrences P T)), decimal-short 4 total (omega (arith, occurrences-few P T)), decimal-short 7 looked (omega (arith, compared-fits row.engine sound short small)), places-fit total)

  lines_fit : (these : List Row) → Fit P T these → length (joined (engine_lines these P T)) ≤ length these * 24600
  unfolding engine_lines joined
  lines_fit [] f = omega arith
  lines_fit (row ∷ others) f =
      rw suc-mul
      (omega
      (arith, ap length (joined-append (engine_line row P T) (engine_lines others P T)), length-append (joined (engine_line row P T)) (joined (engine_lines others P T)), line-fits row f.0.0 f.0.1, lines_fit others f.1))

all-fit : (P T : List ℕ) → Within (length P) (length T) 0 0 → length (joined (engine_lines rows P T)) ≤ output_size
unfolding rows
all-fit P T w =
    let some = w.some in
    let later : Fit P T (drop 5 rows) = ((omega arith, bm.sound P T some), ((omega arith, double.sound P T some), ((omega arith, improved.sound P T some), tt))) in
    omega (
      arith,
      lines_fit P T w.short w.small rows
          ((omega arith, naive.sound P T some), ((omega arith, kmp.sound P T some), ((omega arith, horspool.sound P T some), ((omega arith, sunday.sound P T some), ((omega arith, fjs.sound P T some), later))))),
    )

pub answered-fits : (P T : List ℕ) → length (joined (answered P T)) ≤ output_size
unfolding answered
answered-fits P T =
    let number : ℕ = refusal (length P) (length T) 0 0 in
    by-test (λ t. length (joined (cond t (engine_lines rows P T) (refused_line number))) ≤ output_size) (eqb number 0)
    (λ e. all-fit P T (within (length P) (length T) 0 0 (eqb-true number 0 e)))
    (λ _. refused-fits number (omega (arith, refusal-most (length P) (length T) 0 0)))
