-- `improved_fjs::find`: the tables are made, the gap is found, and the search finds all. Assumes nothing.
use Rattle.std.proofs.Common.{◌-◌, arith, refl, ap}
use Rattle.std.proofs.lemmas.Result.{err_from_is_err_and}
use Rattle.letter_tables.specs.declared.Gap.{Gap}
use Rattle.matching.proofs.Find.{found-err, found-accepted}
use Rattle.improved_fjs.proofs.Sound.{gap-inside}
use Rattle.improved_fjs.proofs.Ready.{refused, allowed, ready}
use Rattle.improved_fjs.proofs.find.Goals as goal

pub returns-in_err-refused : goal.returns-in_err-refused
returns-in_err-refused c =
    let p = err_from_is_err_and c.from_residual.result c.from_residual.ensures.1 in
    rw (p.1, p.2) (found-err _ (refused _ _ _ c.min-tabled.ensures c.in_err-refused.ensures))

pub make_tables-widest-requires-clause-short : goal.make_tables-widest-requires-clause-short
make_tables-widest-requires-clause-short c = (allowed c.args.pattern.now c.args.text.now c.min-tabled.ensures c.in_ok-refused.ensures).limits.short

pub make_tables-widest-requires-clause-room : goal.make_tables-widest-requires-clause-room
make_tables-widest-requires-clause-room c = (allowed c.args.pattern.now c.args.text.now c.min-tabled.ensures c.in_ok-refused.ensures).limits.room

pub overflow_sub-widest : goal.overflow_sub-widest
overflow_sub-widest c =
    let ok = allowed c.args.pattern.now c.args.text.now c.min-tabled.ensures c.in_ok-refused.ensures in
    omega (arith, ap (λ (g : Gap). g.letter) c.make_tables-widest.ensures.gap, gap-inside c.args.pattern.now ok.limits.some)

pub search-requires : goal.search-requires
search-requires c =
    ready (allowed c.args.pattern.now c.args.text.now c.min-tabled.ensures c.in_ok-refused.ensures) c.make_tables-widest.ensures.made
    (ap (λ (g : Gap). g.letter - 1) c.make_tables-widest.ensures.gap)

pub returns : goal.returns
returns c =
    let ok = allowed c.args.pattern.now c.args.text.now c.min-tabled.ensures c.in_ok-refused.ensures in
    rw c.search.ensures.answer (found-accepted ok.none refl refl c.make_tables-widest.ensures.made c.search.ensures.listed)
