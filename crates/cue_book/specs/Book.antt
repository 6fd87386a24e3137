-- The format of a book (document 01, "Cue book, folding, lines"): its bytes, and what its cues may be.
use Rattle.std.specs.Prelude.{ℕ, List, [], ◌∷◌, ◌++◌}
use Rattle.cues.specs.Cue.{Cue, cue_bytes, Valid}

-- a book: its cues, one after another, and nothing after
unfoldable pub book_bytes : List Cue → List ℕ
unfolding cue_bytes
book_bytes [] = []
book_bytes (c ∷ cs) = cue_bytes c ++ book_bytes cs

-- every cue of a list is valid
unfoldable pub AllValid : List Cue → Type 0
AllValid [] = Unit {0}
AllValid (c ∷ cs) = Valid c × AllValid cs
