-- How many bytes the fields and the lines have. Assumes nothing.
use mathlib.Core.Path.{◌≡◌, ap, ◌∙◌}
use Prim.Native.Nat.{ℕ, zero, suc, ◌+◌, ◌*◌, ◌≤◌, ◌<◌}
use native.Mathlib.Omega.{arith}
use native.Mathlib.Nat.{suc-mul}
use mathlib.Core.List.{List, [], ◌∷◌, ◌++◌}
use lib.ListN.{length, get_or, length-append}
use Rattle.pieces.specs.Pieces.{joined}
use Rattle.pieces.proofs.Laid.{joined-append}
use Rattle.finder_lines.specs.Lines.{field, fields, line_of, refused_line}

-- fields of at most so many bytes each
pub fields-short : (size count : ℕ) (list : List ℕ) → ((i : ℕ) → i < length list → length (field (get_or list i 0)) ≤ size) → length (joined (fields count list)) ≤ length list * size
unfolding fields joined
fields-short size zero list short = omega arith
fields-short size (suc count) [] short = omega arith
fields-short size (suc count) (x ∷ list) short =
    rw suc-mul
    (omega (arith, length-append (field x) (joined (fields count list)), short 0 (omega arith), fields-short size count list (λ i h. short (suc i) (omega arith))))

-- an engine's line: the name, two numbers, the places, and byte 10
pub line-length : (name : List ℕ) (total comparisons : ℕ) (list : List ℕ)
    → length (joined (line_of name total comparisons list)) ≡ length name + length (field total) + length (field comparisons) + length (joined (fields total list)) + 1
unfolding line_of joined
line-length name total comparisons list =
    let places : List ℕ = joined (fields total list) in
    let ended : List ℕ = joined (fields total list ++ ((10 ∷ []) ∷ [])) in
    let end : length ended ≡ length places + 1 = ap length (joined-append (fields total list) ((10 ∷ []) ∷ [])) ∙ length-append places (10 ∷ []) in
    let second : List ℕ = field comparisons ++ ended in
    let first : List ℕ = field total ++ second in
    omega (arith, length-append name first, length-append (field total) second, length-append (field comparisons) ended, end)

-- a refusal's line: `refused`, the number, and byte 10
pub refused-length : (number : ℕ) → length (joined (refused_line number)) ≡ 8 + length (field number)
unfolding refused_line joined
refused-length number = omega (arith, length-append (field number) (10 ∷ []))
