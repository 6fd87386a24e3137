-- The folded phrases that the automaton's functions are given.
use Rattle.std.specs.Prelude.{ℕ, List}
use Rattle.phrases.specs.Phrases.{phrases_in}
use Rattle.automaton.specs.Walk.{table}
use Rattle.automaton.specs.declared.Phrases.{Phrases}

-- those of a group, each letter looked up
abbrev pub words : Phrases → List (List ℕ)
words p = phrases_in (table p.folds.now) p.book.now p.starts.now p.lens.now
