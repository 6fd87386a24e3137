-- `put_line`: its pieces, one after another.
use Rattle.pieces.proofs.Laid.{laid_one, laid_cons, laid_then}
use Rattle.finder_lines.specs.Lines.{line_of}
use Rattle.finder_lines.proofs.put_line.Goals as goal

pub returns : goal.returns
unfolding line_of
returns c =
    laid_cons _ _ _ _ c.put_bytes-next.ensures
    (laid_cons _ _ _ _ c.put_number-next.ensures (laid_cons _ _ _ _ c.put_number-next-2.ensures (laid_then _ _ _ _ c.put_numbers-next.ensures (laid_one _ _ _ c.put_bytes.ensures))))
