-- A find by a method number is the find of the engine that the number names. Assumes nothing.
use Rattle.find.proofs.Methods.{answered-by}
use Rattle.find.proofs.find.Goals as goal

pub returns : goal.returns
returns c = answered-by c.in_ok-try_from.field-0 c.in_ok-try_from.ensures c.find.ensures
