-- What the find gave and left is what the engine's line is made of; and it is not refused. Assumes nothing.
use Rattle.std.proofs.Common.{ℕ, List, refl, subst}
use Rattle.pieces.specs.Pieces.{Laid, put_all}
use Rattle.finder_answer.proofs.Rows.{found-line, found-some}
use Rattle.finder_answer.proofs.put_engine.Goals as goal

pub unreachable-requires : goal.unreachable-requires
unreachable-requires c = found-some c.args.method c.in_default.field-0 c.in_default.ensures refl c.requires

pub returns : goal.returns
returns c =
    let a = c.args in
    subst (λ (pieces : List (List ℕ)). Laid c.put_line.new.buffer c.put_line.result (put_all a.output.now a.at pieces)) (found-line a.method a.name.now c.in-Ok.ensures refl refl c.requires) c.put_line.ensures
