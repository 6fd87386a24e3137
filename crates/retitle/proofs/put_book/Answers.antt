-- A buffer that is too short is left, and into another the four pieces are laid one after another. Assumes nothing.
use Rattle.std.proofs.Common.{arith}
use Rattle.retitle.proofs.Retitling.{laid-pieces, put_refused, put-fits}
use Rattle.retitle.proofs.put_book.Goals as goal

pub returns-then-buffer-before : goal.returns-then-buffer-before
returns-then-buffer-before c = put_refused _ _ _ (omega arith)

pub overflow_cast-result : goal.overflow_cast-result
overflow_cast-result c =
    let laid = laid-pieces _ _ _ _ c.requires.short c.to_be_bytes-two.ensures c.put_bytes-at.ensures c.put_bytes-at-2.ensures c.put_bytes-at-3.ensures c.put_bytes-at-4.ensures in
    omega (arith, c.requires.short, c.requires.fits, (put-fits _ _ _ (omega arith) laid).0)

pub returns : goal.returns
returns c =
    (put-fits _ _ _ (omega arith)
    (laid-pieces _ _ _ _ c.requires.short c.to_be_bytes-two.ensures c.put_bytes-at.ensures c.put_bytes-at-2.ensures c.put_bytes-at-3.ensures c.put_bytes-at-4.ensures)).1
