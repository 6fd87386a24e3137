-- `automaton::accepted`: the tests together are what is asked of a group.
use Rattle.std.proofs.Common.{rules}
use Rattle.fold.specs.Fold.{fold_on}
use Rattle.automaton.proofs.Accepting.{accepted_good}
use Rattle.automaton.proofs.accepted.Goals as goal

pub returns-then-text-le4294967295 : goal.returns-then-text-le4294967295
returns-then-text-le4294967295 c =
    let fits = c.fits.ensures (fold_on c.args.page) in (
      (λ e.
          let g = fits.0 e in
          record {
            known = search rules;
            some = search rules;
            few = search rules;
            pairs = search rules;
            inside = g.group.inside;
            letter = g.group.some;
            most = g.most;
            lefts = search rules;
            places = search rules;
            room = search rules;
            small = search rules;
          }),
      λ a. fits.1 (accepted_good a),
    )
