-- The words in which the outcome's laws are told to a caller, and the resolver's law of a fold.
use Rattle.std.specs.Prelude.{◌≡◌, ℕ, suc, ◌+◌, ◌*◌, ◌≤◌, ◌<◌, Bool, true, false, ◌||◌, length, get_or, take, drop, eqb}
use mathlib.Core.List.{List, [], ◌∷◌, ◌++◌, map}
use Rattle.matching.specs.Occurrences.{Occurs}
use Rattle.matching.specs.Received.{received}
use Rattle.matching.specs.Joined.{those}
use Rattle.roles.specs.Roles.{guest}
use Rattle.cues.specs.declared.Choice.{Choice}
use Rattle.cues.specs.Cue.{Cue, plays_on, is_open, seen_by}
use Rattle.cue_book.specs.Reading.{Reading, cues, read_book, playing, seen, playing_for}
use Rattle.line_column.specs.LineColumn.{line_column}
use Rattle.outcome.specs.Outcome.{Numbered, cues_of, cue_occurrences, is_there, place_of, cue_fault, Judged, entries_of, fits, groups, Call, Outcome, outcome}

-- folding a second time changes nothing
abbrev pub Idempotent : (ℕ → ℕ) → Type 0
Idempotent f = (b : ℕ) → f (f b) ≡ f b

-- a folded text has the lines and columns of the text
abbrev pub KeepsLines : (ℕ → ℕ) → Type 0
KeepsLines f = (text : List ℕ) (place : ℕ) → line_column (map f text) place ≡ line_column text place

-- each place is above all before it
abbrev pub Rises : List ℕ → Type 0
Rises places = (i j : ℕ) → i < j → j < length places → get_or places i 0 < get_or places j 0

-- ---- the groups (document 02, (vi))

-- one after another
unfoldable pub joined : List (List Cue) → List Cue
joined [] = []
joined (g ∷ gs) = g ++ joined gs

-- each has a cue
unfoldable pub AllSome : List (List Cue) → Type 0
AllSome [] = Unit {0}
AllSome (g ∷ gs) = (1 ≤ length g) × AllSome gs

-- each fits into 64 cues and 4,096 phrase bytes
unfoldable pub AllFit : List (List Cue) → Type 0
AllFit [] = Unit {0}
AllFit (g ∷ gs) = (fits g ≡ true) × AllFit gs

-- none has room for the first cue of the next
unfoldable pub AllFull : List (List Cue) → Type 0
AllFull [] = Unit {0}
AllFull (g ∷ []) = Unit {0}
AllFull (g ∷ h ∷ gs) = (fits (g ++ take 1 h) ≡ false) × AllFull (h ∷ gs)

-- the cues in their order, as many in each group as fit
pub record Grouping (cs : List Cue) (gs : List (List Cue)) : Type 0 where
  pub consecutive : joined gs ≡ cs
  pub some : AllSome gs
  pub fit : AllFit gs
  pub full : AllFull gs

-- a group before the cues that are left: it has a cue, it fits, and it has no room for the first of those
pub record Group (g rest : List Cue) : Type 0 where
  pub some : 1 ≤ length g
  pub fit : fits g ≡ true
  pub closed : 1 ≤ length rest → fits (g ++ take 1 rest) ≡ false

-- the group of a cue among the groups `gs`: `full` come before it. The groups `up_to` of the cues up to this one are those and what its group has so far, so that what follows a cue plays no part in its group
pub record Holds (c : Cue) (gs up_to : List (List Cue)) : Type 0 where
  pub full : List (List Cue)
  pub front : List Cue
  pub back : List Cue
  pub others : List (List Cue)
  pub whole : gs ≡ full ++ (front ++ c ∷ back) ∷ others
  pub so_far : up_to ≡ full ++ (front ++ c ∷ []) ∷ []

abbrev pub GroupOf : List Cue → Cue → List Cue → Type 0
GroupOf before c later = Holds c (groups (before ++ c ∷ later)) (groups (before ++ c ∷ []))

-- its number, 1 for the first
abbrev pub group_number : {c : Cue} {gs up_to : List (List Cue)} → Holds c gs up_to → ℕ
group_number g = suc (length g.full)

module _ (f : ℕ → ℕ) (text : List ℕ) where
  -- every cue is found
  unfoldable pub AllThere : List Cue → Type 0
  unfolding cue_occurrences
  AllThere [] = Unit {0}
  AllThere (c ∷ cs) = (is_there f text c ≡ true) × AllThere cs

  -- their places
  abbrev pub places_of : List Cue → List ℕ
  places_of cs = map (place_of f text) cs

  -- no fault: every cue is found, the places rise, and the number is that of the cues; `found` stood before them
  pub record Found (found : List ℕ) (xs : List Numbered) (j : Judged) : Type 0 where
    pub there : AllThere (cues_of xs)
    pub number : j.number ≡ length found + length xs
    pub places : j.places ≡ found ++ places_of (cues_of xs)
    pub rises : Rises j.places

  -- the first cue with a fault: those before it are found and their places rise, and it is named
  pub record Faulted (found : List ℕ) (xs : List Numbered) (j : Judged) : Type 0 where
    pub before : List Numbered
    pub faulty : Numbered
    pub later : List Numbered
    pub all : xs ≡ before ++ faulty ∷ later
    pub there : AllThere (cues_of before)
    pub number : j.number ≡ faulty.number
    pub places : j.places ≡ found ++ places_of (cues_of before)
    pub rises : Rises j.places
    pub why : j.refusal ≡ cue_fault f text j.places faulty.cue

  -- the folded phrase stands there in the folded text, and exactly the occurrences before the cue's ordinal stand before it
  pub record Named (c : Cue) (place : ℕ) : Type 0 where
    pub stands : Occurs (map f c.phrase) (map f text) place
    pub earlier : (i : ℕ) → i + 1 < c.ordinal → get_or (cue_occurrences f text c) i 0 < place
    pub later : (i : ℕ) → c.ordinal ≤ i → i < length (cue_occurrences f text c) → place < get_or (cue_occurrences f text c) i 0

  -- a cue came out: its occurrence exists, it is the one that the cue names, and the cue's three entries stand after those of the cues before it
  pub record CameOut (entries : List ℕ) (index : ℕ) (c : Cue) : Type 0 where
    pub there : is_there f text c ≡ true
    pub named : Named c (place_of f text c)
    pub entered : take 3 (drop (3 * index) entries) ≡ entries_of text (place_of f text c ∷ [])

  -- refusal 0: the book reads as cues, the number is how many of them are chosen, every one of these came out, their places rise, and every letter was read once for each of their groups
  pub record AllOut (who : Choice) (book entries : List ℕ) (number reads : ℕ) : Type 0 where
    pub whole : List Cue
    pub read : read_book book ≡ cues whole
    pub number_is : number ≡ length (playing_for who whole)
    pub rises : Rises (places_of (playing_for who whole))
    pub grouped : Grouping (playing_for who whole) (groups (playing_for who whole))
    pub reads-are : reads ≡ length text * length (groups (playing_for who whole))
    pub out : (before : List Cue) (c : Cue) (later : List Cue) → playing_for who whole ≡ before ++ c ∷ later → CameOut entries (length before) c

  -- a cue's fault: the book reads as cues, one of them is seen by the role, plays on the day and has this fault, which may speak of the chosen ones before it, and the number is its index among those that the
  -- role sees; every chosen one before it came out, their places rise, and every letter was read once for each group up to its own
  pub record OneFaulty (who : Choice) (Fault : List Cue → Cue → Type 0) (book entries : List ℕ) (number reads : ℕ) : Type 0 where
    pub before : List Cue
    pub faulty : Cue
    pub after : List Cue
    pub read : read_book book ≡ cues (before ++ faulty ∷ after)
    pub sees : seen_by who.role faulty ≡ true
    pub plays : plays_on who.day faulty ≡ true
    pub number_is : number ≡ length (seen who.role before)
    pub fault : Fault (playing_for who before) faulty
    pub rises : Rises (places_of (playing_for who before))
    pub grouped : Grouping (playing_for who before ++ faulty ∷ playing_for who after) (groups (playing_for who before ++ faulty ∷ playing_for who after))
    pub group : GroupOf (playing_for who before) faulty (playing_for who after)
    pub reads-are : reads ≡ length text * group_number group
    pub out : (earlier : List Cue) (c : Cue) (later : List Cue) → playing_for who before ≡ earlier ++ c ∷ later → CameOut entries (length earlier) c

  -- refusal 12: its occurrence does not exist
  abbrev pub Missing : List Cue → Cue → Type 0
  Missing earlier c = is_there f text c ≡ false

  -- refusal 15: its occurrence exists, and stands where that of the cue before it does or before that
  pub record Falling (earlier : List Cue) (c : Cue) : Type 0 where
    pub there : is_there f text c ≡ true
    pub front : List Cue
    pub previous : Cue
    pub last : earlier ≡ front ++ previous ∷ []
    pub low : place_of f text c ≤ place_of f text previous

-- a refusal that is no cue's: neither 0, nor 12 or 15
pub record Another (refusal : ℕ) : Type 0 where
  pub not-0 : refusal ≡ 0 → ⊥
  pub not-12 : refusal ≡ 12 → ⊥
  pub not-15 : refusal ≡ 15 → ⊥

-- any other refusal: the lent memory is not worked on, nothing is read, and nothing is written
pub record Idle (o : Outcome) : Type 0 where
  pub works : o.works ≡ false
  pub reads : o.resolution.reads ≡ 0
  pub written : o.resolution.written ≡ []

-- ---- the day (document 02, (viii)) and the role (document 02, (xiv))

-- the open cues of a book
abbrev pub open_cues : List Cue → List Cue
open_cues cs = those (λ c. is_open c.mark) cs

-- two numbers name the same cue of those that play on a day: the one among all of these cues, the other among those
pub record SameCue (day : ℕ) (whole : List Cue) (number number' : ℕ) : Type 0 where
  pub before : List Cue
  pub cue : Cue
  pub after : List Cue
  pub split : whole ≡ before ++ cue ∷ after
  pub plays : plays_on day cue ≡ true
  pub number_is : number ≡ length before
  pub number'-is : number' ≡ length (playing day before)

-- whether a refusal is a cue's, so that its number names that cue
abbrev pub names_cue : ℕ → Bool
names_cue refusal = eqb refusal 12 || eqb refusal 15

-- the outcome of a book of which the role sees these cues is the other one, of the book in which only the playing ones of them stand, but for the numbers by which 12 and 15 name a cue
pub record PlayingAlone (day : ℕ) (whole : List Cue) (o o' : Outcome) : Type 0 where
  pub works : o.works ≡ o'.works
  pub refusal : o.resolution.refusal ≡ o'.resolution.refusal
  pub reads : o.resolution.reads ≡ o'.resolution.reads
  pub written : o.resolution.written ≡ o'.resolution.written
  pub number : names_cue o.resolution.refusal ≡ false → o.resolution.number ≡ o'.resolution.number
  pub named : names_cue o.resolution.refusal ≡ true → SameCue day whole o.resolution.number o'.resolution.number

-- ---- the resolver's law (document 02, (iv)), of a fold

-- the call with its text folded beforehand
abbrev pub beforehand : (ℕ → ℕ) → Call → Call
beforehand f c = record { who = c.who; page = c.page; text = map f c.text; copy = c.copy; scratch = c.scratch; entries = c.entries }

-- two outcomes give the same back, and the same place for each cue, which is the first of its three entries
pub record SamePlaces (o o' : Outcome) : Type 0 where
  pub works : o.works ≡ o'.works
  pub refusal : o.resolution.refusal ≡ o'.resolution.refusal
  pub number : o.resolution.number ≡ o'.resolution.number
  pub reads : o.resolution.reads ≡ o'.resolution.reads
  pub written : length o.resolution.written ≡ length o'.resolution.written
  pub places : (index : ℕ) → get_or o.resolution.written (3 * index) 0 ≡ get_or o'.resolution.written (3 * index) 0

-- each chosen cue comes out at the occurrence of its folded phrase in the folded text, the cues that are not chosen have no part in it, a guest gets the same of two books whose open cues are the same, and a text
-- folded beforehand gives the same places; where the fold keeps lines, it gives the same of everything
pub record Law (f : ℕ → ℕ) : Type 0 where
  pub all-out : (c : Call) (book entries : List ℕ) → length entries ≡ c.entries → let o = (outcome f c (read_book book)).resolution in
      o.refusal ≡ 0 → AllOut f c.text c.who book (received entries o.written) o.number o.reads
  pub one-missing : (c : Call) (book entries : List ℕ) → length entries ≡ c.entries → let o = (outcome f c (read_book book)).resolution in
      o.refusal ≡ 12 → OneFaulty f c.text c.who (Missing f c.text) book (received entries o.written) o.number o.reads
  pub one-falling : (c : Call) (book entries : List ℕ) → length entries ≡ c.entries → let o = (outcome f c (read_book book)).resolution in
      o.refusal ≡ 15 → OneFaulty f c.text c.who (Falling f c.text) book (received entries o.written) o.number o.reads
  pub idle : (c : Call) (book : Reading) → let o = outcome f c book in Another o.resolution.refusal → Idle o
  pub playing-alone : (c : Call) (whole : List Cue) → PlayingAlone c.who.day (seen c.who.role whole) (outcome f c (cues whole)) (outcome f c (cues (playing_for c.who whole)))
  pub secrecy : (c : Call) (one other : List Cue) → c.who.role ≡ guest → open_cues one ≡ open_cues other → outcome f c (cues one) ≡ outcome f c (cues other)
  pub same-places : (c : Call) (book : Reading) → SamePlaces (outcome f (beforehand f c) book) (outcome f c book)
  pub same_lines : KeepsLines f → (c : Call) (book : Reading) → outcome f (beforehand f c) book ≡ outcome f c book
