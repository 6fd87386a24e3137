-- `pieces::put_bytes`: a byte more is pasted in each turn, and in the end the whole piece. Assumes nothing.
use Rattle.std.proofs.Common.{◌≡◌, ◌+◌, ◌++◌, List, ℕ, arith, ap, ◌∙◌, length, take, drop, add-one}
use lib.Seq.{paste, paste-zero, paste-suc, take-length}
use Rattle.pieces.proofs.Laid.{put-fits}
use Rattle.pieces.proofs.put_bytes.Goals as goal

pub loop-i-init : goal.loop-i-init
loop-i-init c = let a = c.args in paste-zero a.buffer.now a.at a.piece.now

pub loop-i-preserved : goal.loop-i-preserved
loop-i-preserved c =
    let a = c.args in
    rw (add-one, c.loop-i.invariant) (paste-suc a.buffer.now a.at a.piece.now c.loop-i.i 0 (omega arith) (omega arith))

pub returns : goal.returns
returns c =
    let a = c.args in
    rw (put-fits a.buffer.now a.at a.piece.now (omega arith))
    (record {
      bytes = c.loop-i.invariant ∙ ap (paste a.buffer.now a.at a.piece.now) (omega arith) ∙ ap (λ (l : List ℕ). take a.at a.buffer.now ++ l ++ drop (a.at + length a.piece.now) a.buffer.now) (take-length a.piece.now);
      next = omega arith;
    })
