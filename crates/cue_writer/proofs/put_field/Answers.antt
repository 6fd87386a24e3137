-- Two pieces, the header and the body. Assumes nothing.
use Rattle.std.proofs.Common.{◌∙◌}
use Rattle.pieces.proofs.Laid.{laid_one, laid_cons}
use Rattle.cue_writer.proofs.Writing.{be-two}
use Rattle.cue_writer.proofs.put_field.Goals as goal

pub returns : goal.returns
returns c =
    let two = c.to_be_bytes.ensures ∙ be-two _ c.requires in
    laid_cons _ _ _ _ (rw two at c.put_bytes-next.ensures) (laid_one _ _ _ c.put_bytes.ensures)
