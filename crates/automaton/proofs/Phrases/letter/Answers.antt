-- `Phrases::letter`: a letter of the part of the book that is lent, folded.
use Rattle.std.proofs.Common.{◌∙◌, rules}
use Rattle.automaton.proofs.Levels.{letter_folded, letter_past}
use Rattle.automaton.proofs.Phrases.letter.Goals as goal

pub returns-in_err-letter : goal.returns-in_err-letter
returns-in_err-letter c = c.from_residual.ensures ∙ letter_past c.args.self c.args.i c.args.d c.requires (search rules)

pub returns : goal.returns
returns c = letter_folded c.args.self c.args.i c.args.d c.requires c.in_ok-letter.letter.now (search rules) (search rules)
