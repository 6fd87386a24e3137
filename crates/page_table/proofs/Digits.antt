-- The field of a number below 256 fits four bytes, and its digits are what stands after its space. Assumes nothing.
use mathlib.Core.Path.{◌≡◌, ap, ◌∙◌}
use Prim.Native.Nat.{ℕ, ◌+◌, ◌-◌, ◌≤◌, ◌<◌}
use native.Mathlib.Omega.{arith}
use mathlib.Core.List.{List, ◌++◌}
use lib.ListN.{length, take, drop, replicate}
use lib.Seq.{take_at}
use Rattle.pieces.specs.Pieces.{Filled, put, Laid}
use Rattle.pieces.proofs.Laid.{put-fits}
use Rattle.finder_lines.specs.Lines.{decimal, field}
use Rattle.finder_lines.proofs.Decimal.{tens, decimal-short}

-- the field fits four bytes, and the digits are what stands after its space
module _ {value : ℕ} (small : value < 256) {bytes : List ℕ} {end : ℕ} (l : Laid bytes end (put (replicate 4 0) 0 (field value))) where
  pub few : length (decimal value) ≤ 3
  unfolding tens
  few = decimal-short 2 value (omega arith)

  laid : put (replicate 4 0) 0 (field value) ≡ record { bytes = field value ++ drop (0 + length (field value)) (replicate 4 0); next = 0 + length (field value) }
  laid = put-fits (replicate 4 0) 0 (field value) (omega (arith, few))

  pub end_is : end ≡ 1 + length (decimal value)
  end_is = l.next ∙ ap (λ (f : Filled). f.next) laid ∙ omega arith

  pub digits : take (end - 1) (drop 1 bytes) ≡ decimal value
  digits =
      let rest : List ℕ = drop (0 + length (field value)) (replicate 4 0) in
      ap (λ (x : List ℕ). take (end - 1) (drop 1 x)) (l.bytes ∙ ap (λ (f : Filled). f.bytes) laid) ∙ take_at (decimal value) rest (end - 1) (omega (arith, end_is))
