-- `print_answer`: an input that is too long is refused, and any other is split and answered.
use Rattle.std.proofs.Common.{◌≡◌, arith, length-take-le, rules, sym}
use Rattle.finder_output.proofs.Promise.{promise-refused, promise-answered}
use Rattle.finder_output.proofs.Split.{end_is, split-min, phrase-within}
use Rattle.finder_output.proofs.print_answer.Goals as goal

pub returns-then-input-gt-LONGEST_INPUT : goal.returns-then-input-gt-LONGEST_INPUT
returns-then-input-gt-LONGEST_INPUT c = let number : c.into.result ≡ 4 = search rules in promise-refused (omega arith) (omega arith) (rw number at c.put_refused.ensures)

pub overflow_add-end : goal.overflow_add-end
overflow_add-end c = record { fits = omega (arith, end_is c.args.input.now c.phrase_end.ensures c.unwrap_or-end.ensures, phrase-within c.args.input.now) }

pub slice_bounds-put_answer-end : goal.slice_bounds-put_answer-end
slice_bounds-put_answer-end c =
    sym (length-take-le c.unwrap_or-end.result c.args.input.now (omega (arith, end_is c.args.input.now c.phrase_end.ensures c.unwrap_or-end.ensures, phrase-within c.args.input.now)))

pub returns : goal.returns
returns c = promise-answered (omega arith) (omega arith) (split-min (end_is c.args.input.now c.phrase_end.ensures c.unwrap_or-end.ensures) c.min-start.ensures) c.put_answer.ensures
