-- `boyer_moore::larger`: both entries by their rules, and the larger of them, which moves the text pointer past the letters that are equal. Assumes nothing.
use Rattle.std.proofs.Common.{ℕ, ◌+◌, ◌-◌, length, arith, get_or, refl}
use Rattle.letter_tables.proofs.BadCharacter.{delta1-reads}
use Rattle.suffix_tables.proofs.Delta2.{delta2-reads}
use Rattle.boyer_moore.proofs.Moves.{larger-is}
use Rattle.boyer_moore.proofs.larger.Goals as goal

pub returns-clause-value : goal.returns-clause-value
returns-clause-value c =
    let a = c.args in
    let P = a.pattern.now in
    let q : ℕ = length P - 1 - a.k in
    let by-letter = delta1-reads P (get_or a.text.now (a.s + q) 0) c.requires.made.delta1 (omega (arith, c.type_inv.text (a.s + q))) in
    let by-place = delta2-reads P q c.requires.made.delta2 (omega arith) refl in
    larger-is P a.text.now a.s a.k q (omega arith) by-letter.is by-place.is (omega arith)

pub returns-clause-past : goal.returns-clause-past
returns-clause-past c =
    let P = c.args.pattern.now in
    let q : ℕ = length P - 1 - c.args.k in
    let by-place = delta2-reads P {p = 256 + q} q c.requires.made.delta2 (omega arith) refl in
    omega (arith, by-place.least)
