-- All that is printed for an input fits the output of `output_size` bytes: the answer for its phrase and text does, and so does one refusal. Assumes nothing.
use mathlib.Core.Path.{◌≡◌}
use Prim.Native.Nat.{ℕ, ◌≤◌}
use native.Mathlib.Omega.{arith}
use mathlib.Core.Bool.{cond}
use mathlib.Core.List.{List}
use lib.ListN.{length}
use lib.Dec.{ltb}
use Rattle.matching.proofs.CaseAnalysis.{by-test}
use Rattle.pieces.specs.Pieces.{joined}
use Rattle.finder_lines.specs.Lines.{refused_line}
use Rattle.finder_answer.specs.Answered.{answered, output_size}
use Rattle.finder_answer.proofs.Fits.{refused-fits, answered-fits}
use Rattle.finder_output.specs.Printed.{phrase_in, text_in, printed, Printed}

pub printed-fits : (input : List ℕ) → length (printed input) ≤ output_size
unfolding printed
printed-fits input =
    by-test (λ t. length (joined (cond t (refused_line 4) (answered (phrase_in input) (text_in input)))) ≤ output_size) (ltb 33793 (length input))
    (λ _. refused-fits 4 (omega arith))
    (λ _. answered-fits (phrase_in input) (text_in input))

-- what is given back lies within an output of that size
pub printed-within : {input output : List ℕ} {r : ℕ} {output' : List ℕ} → Printed input output r output' → r ≤ output_size
printed-within {input} {output} {r} p =
    by-test (λ t. r ≡ cond t 0 (length (printed input)) → r ≤ output_size) (ltb (length output) output_size)
    (λ _ e. omega arith) (λ _ e. omega (arith, printed-fits input)) p.count
