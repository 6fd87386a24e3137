-- The promise `Printed` from what the code has laid out. Assumes nothing.
use mathlib.Core.Path.{◌≡◌, ap, ap₂, subst}
use Prim.Native.Nat.{ℕ, ◌-◌, ◌≤◌, ◌<◌}
use native.Mathlib.Omega.{arith}
use mathlib.Core.List.{List}
use lib.ListN.{length, take, drop}
use borrow.Author.Tests.{lt-ltb, le-ltb}
use Rattle.pieces.specs.Pieces.{joined, put_all, Laid}
use Rattle.pieces.proofs.Laid.{laid-front}
use Rattle.finder_lines.specs.Lines.{refused_line}
use Rattle.finder_answer.specs.Answered.{answered, output_size}
use Rattle.finder_output.specs.Printed.{phrase_in, text_in, printed, Printed}
use Rattle.finder_output.proofs.Split.{Split}
use Rattle.finder_output.proofs.Fits.{printed-fits}

module _ {input output : List ℕ} where
  module _ {r : ℕ} {output' : List ℕ} (enough : output_size ≤ length output) where
    -- the pieces of all that is printed were laid out
    promise-laid : (pieces : List (List ℕ)) → printed input ≡ joined pieces → Laid output' r (put_all output 0 pieces) → Printed input output r output'
    promise-laid pieces is l =
        let off = le-ltb (length output) output_size enough in
        let whole = laid-front pieces output (omega (arith, ap length is, printed-fits input)) l in
        record { count = rw (off, is) whole.0; left = rw (off, is) whole.1 }

    -- an input that is too long
    pub promise-refused : 33793 < length input → Laid output' r (put_all output 0 (refused_line 4)) → Printed input output r output'
    unfolding printed
    promise-refused long l = promise-laid (refused_line 4) (rw (lt-ltb 33793 (length input) long)) l

    -- any other
    pub promise-answered : {end start : ℕ} → length input ≤ 33793 → Split input end start
        → Laid output' r (put_all output 0 (answered (take end input) (take (length input - start) (drop start input)))) → Printed input output r output'
    unfolding printed
    promise-answered short s l =
        promise-laid (answered (phrase_in input) (text_in input)) (rw (le-ltb 33793 (length input) short))
        (subst (λ (pieces : List (List ℕ)). Laid output' r (put_all output 0 pieces)) (ap₂ answered s.phrase s.text) l)
