-- What a resolve promises (document 01, "Cue book, folding, lines"; document 02, (iv), (vi), (viii) and (xiv)): what is given back, and the lent memory afterwards, by the outcome of a call (crate `outcome`).
use Rattle.std.specs.Prelude.{◌≡◌, ℕ, true, false, cond, List, ◌++◌, map, length, drop, replicate, Result, Ok, Err}
use Rattle.matching.specs.Results.{number_of}
use Rattle.matching.specs.Received.{received}
use Rattle.fold.specs.Fold.{fold_on}
use Rattle.cues.specs.declared.Choice.{Choice}
use Rattle.cues.specs.Cue.{Cue}
use Rattle.cue_book.specs.Reading.{read_book}
use Rattle.outcome.specs.Outcome.{Call, Resolution, Outcome, outcome}
use Rattle.outcome.specs.Told.{SameCue, names_cue}
use Rattle.resolver.specs.declared.AllPlaced.{AllPlaced}
use Rattle.resolver.specs.declared.Unresolved.{Unresolved}
use Rattle.resolver.specs.declared.Resolving.{Resolving}

-- what was told, as C receives it
abbrev pub resolving : Result AllPlaced Unresolved → Resolving
resolving (Ok r) = record { refusal = 0; number = r.cues; reads = r.reads }
resolving (Err u) = record { refusal = number_of u.fault.refusal; number = u.fault.number; reads = u.reads }

-- the call for this role and day on this page with this text, and with this text copy, scratch and cue entries lent
abbrev pub call : Choice → ℕ → List ℕ → List ℕ → List ℕ → List ℕ → Call
call who page text copy scratch entries = record { who = who; page = page; text = text; copy = length copy; scratch = length scratch; entries = length entries }

-- its outcome with this book, by the page's fold
abbrev pub comes_to : List ℕ → Call → Outcome
comes_to book c = outcome (fold_on c.page) c (read_book book)

-- what is given back of a resolution
abbrev pub answer_of : Resolution → Resolving
answer_of o = record { refusal = o.refusal; number = o.number; reads = o.reads }

-- where cues were resolved, the copy's first n bytes are the folded text and the scratch is 0 throughout; the entries received those of the chosen cues; the rest is as before
pub record Resolved (who : Choice) (page : ℕ) (book text copy scratch entries : List ℕ) (r : Resolving) (copy' scratch' entries' : List ℕ) : Type 0 where
  pub answer : r ≡ answer_of (comes_to book (call who page text copy scratch entries)).resolution
  pub copied : copy' ≡ cond (comes_to book (call who page text copy scratch entries)).works (map (fold_on page) text ++ drop (length text) copy) copy
  pub emptied : scratch' ≡ cond (comes_to book (call who page text copy scratch entries)).works (replicate (length scratch) 0) scratch
  pub entered : entries' ≡ received entries (comes_to book (call who page text copy scratch entries)).resolution.written

-- what two resolves give back, the one of a book of which the role sees these cues, and the other, in a call otherwise alike, of a book in which only those of them stand that play on the day: the same refusal,
-- reads and number; but where the number names a cue, it names the same cue by its place among the others
pub record OnlyPlaying (day : ℕ) (whole : List Cue) (r r₂ : Resolving) : Type 0 where
  pub refusal : r.refusal ≡ r₂.refusal
  pub reads : r.reads ≡ r₂.reads
  pub number : names_cue r.refusal ≡ false → r.number ≡ r₂.number
  pub named : names_cue r.refusal ≡ true → SameCue day whole r.number r₂.number
