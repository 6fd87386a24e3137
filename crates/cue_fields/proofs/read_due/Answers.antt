-- A field that stands there is read, and another is left out. Assumes nothing.
use Rattle.std.proofs.Common.{sym}
use Rattle.cue_fields.proofs.Steps.{due-stands, due-out}
use Rattle.cue_fields.proofs.read_due.Goals as goal

pub returns-then-stands_at : goal.returns-then-stands_at
returns-then-stands_at c = due-stands (sym c.if-stands_at.ensures) c.read_field.ensures

pub returns-else-stands_at : goal.returns-else-stands_at
returns-else-stands_at c = due-out (sym c.if-stands_at.ensures)
