-- `find_around`: long letters are searched between their seams, and no total is too large.
use Rattle.std.proofs.Common.{ℕ, ap, arith, length, length-append, length-take}
use Rattle.late_cuts.proofs.Fresh.{puts_few, three-found}
use Rattle.late_cuts.proofs.Listing.find_around.Goals as goal

pub find_part-requires-3-clause-total_bound : goal.find_part-requires-3-clause-total_bound
find_part-requires-3-clause-total_bound g c =
    omega (arith, puts_few c.args.place c.args.phrase.now c.lay_out-first.result.now c.find_part-2.ensures, ap length c.lay_out-first.ensures, length-append {A = ℕ}, length-take {A = ℕ})

pub find_part-requires-4-clause-total_bound : goal.find_part-requires-4-clause-total_bound
find_part-requires-4-clause-total_bound g c =
    let a = c.args in
    omega (
      arith,
      puts_few a.place a.phrase.now c.lay_out-first.result.now c.find_part-2.ensures,
      puts_few _ a.phrase.now a.letters.now c.find_part-3.ensures,
      ap length c.lay_out-first.ensures,
      length-append {A = ℕ},
      length-take {A = ℕ},
    )

pub returns : goal.returns
returns g c =
    let a = c.args in
    three-found a.phrase.now a.before.now a.letters.now a.after.now (omega arith) c.requires.before_in_bounds c.requires.after_in_bounds (omega arith) a.place
    c.lay_out-first.ensures c.lay_out-last.ensures c.find_part-2.ensures c.find_part-3.ensures c.find_part-4.ensures
