-- What reading a book gives on every byte string (document 01, "Cue book, folding, lines"; document 02, (viii) and (xiv)), with the tests in the document's order. `rest` is what is left of the book at a cue.
use Rattle.std.specs.Prelude.{ℕ, zero, suc, cond, List, [], ◌∷◌, length, eqb}
use Rattle.cue_fields.specs.Form.{form_size}
use Rattle.matching.specs.Joined.{those}
use Rattle.cues.specs.declared.Choice.{Choice}
use Rattle.cues.specs.Cue.{Cue, plays_on, seen_by}
use Rattle.cues.specs.Reading.{cue_refusal, cue_of, after_cue}

-- what reading a book gives: a refusal with the index of its cue, or the cues
pub data Reading : Type 0 where
  refused : ℕ → ℕ → Reading
  cues : List Cue → Reading

-- a cue before what the rest reads as
abbrev pub followed : Cue → Reading → Reading
followed c (refused number index) = refused number index
followed c (cues cs) = cues (c ∷ cs)

-- up to so many cues, the first with that index, and nothing after (10)
unfoldable pub read_up_to : ℕ → ℕ → List ℕ → Reading
unfolding cue_refusal cue_of form_size
read_up_to zero index rest = cond (eqb (length rest) 0) (cues []) (refused 10 index)
read_up_to (suc more) index rest =
    let rest-reads = followed (cue_of rest) (read_up_to more (suc index) (after_cue rest)) in
    cond (eqb (length rest) 0) (cues []) (cond (eqb (cue_refusal rest) 0) rest-reads (refused (cue_refusal rest) index))

-- a book is 0 to 999 cues and nothing after
unfoldable pub read_book : List ℕ → Reading
unfolding read_up_to
read_book book = read_up_to 999 0 book

-- the two numbers that reading a book gives back: a refusal and the cue's index, or 0 and the number of cues
abbrev pub refusal_of : Reading → ℕ
refusal_of (refused number index) = number
refusal_of (cues cs) = 0

abbrev pub number_of : Reading → ℕ
number_of (refused number index) = index
number_of (cues cs) = length cs

-- the cues that play on a day, in the book's order
abbrev pub playing : ℕ → List Cue → List Cue
playing day cs = those (plays_on day) cs

-- the cues that a role sees, and those of them that play on a day, in the book's order
abbrev pub seen : ℕ → List Cue → List Cue
seen role cs = those (seen_by role) cs

abbrev pub playing_for : Choice → List Cue → List Cue
playing_for who cs = playing who.day (seen who.role cs)

-- the second number that reading a book for a role and a day gives back: the refused cue's index, or the number of cues that are chosen
abbrev pub chosen_of : Choice → Reading → ℕ
chosen_of who (refused number index) = index
chosen_of who (cues cs) = length (playing_for who cs)

-- the cues that were read; none where the book is refused
abbrev pub cues_in : Reading → List Cue
cues_in (refused number index) = []
cues_in (cues cs) = cs

-- the title of the cue with that index; the empty one where there is no such cue
unfoldable pub title_at : List Cue → ℕ → List ℕ
title_at [] index = []
title_at (c ∷ cs) zero = c.title
title_at (c ∷ cs) (suc index) = title_at cs index
