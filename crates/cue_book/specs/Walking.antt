-- What reading a book, for a role and a day or not, and placing a title ask of the walk that they share. Not part of any public promise.
use Rattle.std.specs.Prelude.{◌≡◌, ℕ, List, length, Result, Ok, Err}
use Rattle.matching.specs.declared.Fault.{Fault}
use Rattle.matching.specs.Results as results
use Rattle.cues.specs.declared.Choice.{Choice}
use Rattle.cue_book.specs.declared.Found.{Found}
use Rattle.cue_book.specs.Reading.{refused, cues, read_book, playing_for, cues_in}
use Rattle.cue_book.specs.Places.{title_part}

-- the book is its cues: how many they are, how many of them are chosen, and the part where the wanted cue's title stands
pub record WalkedAll (book : List ℕ) (who : Choice) (wanted : ℕ) (w : Found) : Type 0 where
  pub reads : read_book book ≡ cues (cues_in (read_book book))
  pub counted : w.cues ≡ length (cues_in (read_book book))
  pub chosen : w.chosen ≡ length (playing_for who (cues_in (read_book book)))
  pub part : w.title ≡ title_part book wanted

-- or it is refused with this fault
abbrev pub Walked : List ℕ → Choice → ℕ → Result Found Fault → Type 0
Walked book who wanted (Ok w) = WalkedAll book who wanted w
Walked book who wanted (Err f) = read_book book ≡ refused (results.number_of f.refusal) f.number
