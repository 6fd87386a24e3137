-- `put_refused`: its pieces, one after another.
use Rattle.pieces.proofs.Laid.{laid_one, laid_cons}
use Rattle.finder_lines.specs.Lines.{refused_line}
use Rattle.finder_lines.proofs.put_refused.Goals as goal

pub returns : goal.returns
unfolding refused_line
returns c = laid_cons _ _ _ _ c.put_bytes-next.ensures (laid_cons _ _ _ _ c.put_number-next.ensures (laid_one _ _ _ c.put_bytes.ensures))
