-- It is the part that the walk has noted, or the front of a refused book. Assumes nothing.
use Rattle.std.proofs.Common.{sym}
use Rattle.cue_book.proofs.Books.{part-refused, placed-shows}
use Rattle.cue_book.proofs.title_part.Goals as goal

pub returns-in-Ok : goal.returns-in-Ok
returns-in-Ok c = placed-shows c.in-Ok.ensures.part

pub returns-in-Err : goal.returns-in-Err
returns-in-Err c = placed-shows (sym (part-refused c.args.book.now c.args.cue c.in-Err.ensures))
