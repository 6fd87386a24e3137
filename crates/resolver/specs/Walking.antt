-- What the resolver asks of its walk over the groups of a book's cues. Not part of any public promise.
use Rattle.std.specs.Prelude.{◌≡◌, ℕ, suc, ◌+◌, ◌-◌, ◌*◌, ◌≤◌, ◌<◌, true, false, cond, List, [], ◌∷◌, ◌++◌, map, length, get_or, take, drop, replicate, eqb, Result, Ok, Err}
use Rattle.matching.specs.declared.Fault.{Fault}
use Rattle.matching.specs.Results.{number_of}
use Rattle.matching.specs.Received.{received, received_from}
use Rattle.fold.specs.Fold.{is_page, fold_on}
use Rattle.cues.specs.declared.Choice.{Choice}
use Rattle.cues.specs.Cue.{Cue}
use Rattle.cue_book.specs.Reading.{cues, read_up_to, read_book, seen, playing_for, cues_in}
use Rattle.line_column.specs.LineColumn.{last_of, line_column}
use Rattle.outcome.specs.Outcome.{Numbered, chosen_from, chosen, cues_of, is_there, place_of, fault_of, place_before, judge, entries_of, Resolution, resolution}
use Rattle.outcome.specs.Told.{Group}
use Rattle.resolver.specs.declared.Resolving.{Resolving}
use Rattle.resolver.specs.declared.Unresolved.{Unresolved}
use Rattle.resolver.specs.Resolver.{answer_of}
use Rattle.resolver.specs.declared.NextCue.{NextCue}
use Rattle.resolver.specs.declared.CuesRead.{CuesRead}
use Rattle.resolver.specs.declared.GroupFound.{GroupFound}
use Rattle.resolver.specs.declared.Spot.{Spot}
use Rattle.resolver.specs.declared.Walk.{Walk}

-- ---- where a walk stands in the book

-- the cues that are left at a place, and those of them that are chosen, where the first that the role sees has that number
abbrev pub rest_at : List ℕ → ℕ → ℕ → List Cue
rest_at book number place = cues_in (read_up_to (999 - number) number (drop place book))

abbrev pub chosen_at : Choice → List ℕ → ℕ → ℕ → List Numbered
chosen_at who book number place = chosen_from who.day number (seen who.role (rest_at book number place))

-- the book was read, and of the cues left at a place these are chosen
pub record CuesLeft (who : Choice) (book : List ℕ) (number place : ℕ) (xs : List Numbered) : Type 0 where
  pub few : number ≤ 999
  pub reads : read_up_to (999 - number) number (drop place book) ≡ cues (rest_at book number place)
  pub are : chosen_at who book number place ≡ xs

-- at least one is
pub record Remaining (who : Choice) (book : List ℕ) (number place : ℕ) : Type 0 where
  pub left : CuesLeft who book number place (chosen_at who book number place)
  pub some : 1 ≤ length (chosen_at who book number place)

-- the next group: so many cues, the number of the next that the role sees, and the place after them
pub record NextGroup (who : Choice) (book : List ℕ) (number place count next end : ℕ) : Type 0 where
  pub group : List Numbered
  pub later : List Numbered
  pub split : chosen_at who book number place ≡ group ++ later
  pub grouped : Group (cues_of group) (cues_of later)
  pub counted : count ≡ length group
  pub passed : number + count ≤ next
  pub left : CuesLeft who book next end later

-- ---- the next group's cues, as they stand in the book

pub record Held (book : List ℕ) : Type 0 where
  pub start : ℕ
  pub cue : Cue
  pub letters : take (length cue.phrase) (drop start book) ≡ cue.phrase
  pub inside : start + length cue.phrase ≤ length book
  pub some : 1 ≤ length cue.phrase
  pub named : 1 ≤ cue.ordinal

module _ {book : List ℕ} where
  abbrev pub cues_held : List (Held book) → List Cue
  cues_held hs = map (λ h. h.cue) hs

  abbrev pub starts_of : List (Held book) → List ℕ
  starts_of hs = map (λ h. h.start) hs

  abbrev pub lens_of : List (Held book) → List ℕ
  lens_of hs = map (λ h. length h.cue.phrase) hs

  abbrev pub ordinals_of : List (Held book) → List ℕ
  ordinals_of hs = map (λ h. h.cue.ordinal) hs

-- the numbers of chosen cues
abbrev pub numbers_of : List Numbered → List ℕ
numbers_of xs = map (λ x. x.number) xs

-- the next cue that is chosen, held, and those after it
pub record NextRead (who : Choice) (book : List ℕ) (number place : ℕ) (r : NextCue) : Type 0 where
  pub held : Held book
  pub later : List Numbered
  pub split : chosen_at who book number place ≡ record { number = r.number; cue = held.cue } ∷ later
  pub start : r.phrase.start ≡ held.start
  pub stop : r.phrase.end ≡ r.phrase.start + length held.cue.phrase
  pub short : length held.cue.phrase ≤ 1024
  pub ordinal : r.ordinal ≡ held.cue.ordinal
  pub passed : number ≤ r.number
  pub left : CuesLeft who book (r.number + 1) r.end later

-- so many chosen cues are left; four arrays with room for 64
pub record Gatherable (who : Choice) (book : List ℕ) (number rest place : ℕ) (starts lens ordinals numbers : List ℕ) : Type 0 where
  pub remaining : Remaining who book number place
  pub rest-are : rest ≡ length (chosen_at who book number place)
  pub starts-room : 64 ≤ length starts
  pub lens-room : 64 ≤ length lens
  pub ordinals-room : 64 ≤ length ordinals
  pub numbers-room : 64 ≤ length numbers

-- their first entries are the group's
pub record Gathered (who : Choice) (book : List ℕ) (number place : ℕ) (r : CuesRead) (starts' lens' ordinals' numbers' : List ℕ) : Type 0 where
  pub next : NextGroup who book number place r.count r.after.number r.after.place
  pub held : List (Held book)
  pub cues : cues_of next.group ≡ cues_held held
  pub starts : take r.count starts' ≡ starts_of held
  pub lens : take r.count lens' ≡ lens_of held
  pub ordinals : take r.count ordinals' ≡ ordinals_of held
  pub numbers : take r.count numbers' ≡ numbers_of next.group

-- ---- the walk of a group

pub record Searchable (who : Choice) (page : ℕ) (book : List ℕ) (number rest place : ℕ) (copy scratch left places numbers : List ℕ) : Type 0 where
  pub remaining : Remaining who book number place
  pub rest-are : rest ≡ length (chosen_at who book number place)
  pub known : is_page page ≡ true
  pub small : length copy ≤ 32768
  pub room : 65535 ≤ length scratch
  pub left-room : 64 ≤ length left
  pub places-room : 64 ≤ length places
  pub numbers-room : 64 ≤ length numbers

-- of each cue: nothing is left, and its occurrence in the folded text exists and stands at that place; or something is, and it does not exist
pub record Told (f : ℕ → ℕ) (text left places : List ℕ) (group : List Cue) : Type 0 where
  pub found : (before : List Cue) (c : Cue) (later : List Cue) → group ≡ before ++ c ∷ later → get_or left (length before) 0 ≡ 0 → (is_there f text c ≡ true) × (get_or places (length before) 0 ≡ place_of f text c)
  pub missing : (before : List Cue) (c : Cue) (later : List Cue) → group ≡ before ++ c ∷ later → 1 ≤ get_or left (length before) 0 → is_there f text c ≡ false

-- every letter was read once, the scratch is 0 throughout, and of whatever text the copy is the folding, its cues are told
pub record Searched (who : Choice) (page : ℕ) (book : List ℕ) (number place : ℕ) (copy scratch : List ℕ) (r : GroupFound) (scratch' left' places' numbers' : List ℕ) : Type 0 where
  pub next : NextGroup who book number place r.count r.after.number r.after.place
  pub reads : r.reads ≡ length copy
  pub emptied : scratch' ≡ replicate (length scratch) 0
  pub lefts : length (take r.count left') ≡ r.count
  pub places : length (take r.count places') ≡ r.count
  pub told : (text : List ℕ) → copy ≡ map (fold_on page) text → Told (fold_on page) text (take r.count left') (take r.count places') (cues_of next.group)
  pub numbers : take r.count numbers' ≡ numbers_of next.group

-- ---- the entries of a group

-- the first fault of some cues or 0, and the places of those before it
pub record Passing : Type 0 where
  pub refusal : ℕ
  pub places : List ℕ

-- for cues of which so many occurrences are left to find, at these places, where so many cues came before and the last of them stands there
unfoldable pub passing : ℕ → ℕ → List ℕ → List ℕ → Passing
unfolding fault_of
passing before last [] places = record { refusal = 0; places = [] }
passing before last (l ∷ left) [] = record { refusal = 0; places = [] }
passing before last (l ∷ left) (p ∷ places) =
    let rest : Passing = passing (suc before) p left places in
    let fault : ℕ = fault_of (eqb l 0) before last p in
    cond (eqb fault 0) (record { refusal = rest.refusal; places = p ∷ rest.places }) (record { refusal = fault; places = [] })

-- a group of at most 64 of a book's cues is to be put in a text, and the last spot is known
pub record Puttable (text : List ℕ) (index : ℕ) (left places numbers : List ℕ) (known : Spot) : Type 0 where
  pub few : index + length left ≤ 999
  pub places-are : length left ≡ length places
  pub numbers-are : length left ≡ length numbers
  pub small : length text ≤ 32768
  pub spot : known.at ≡ line_column text known.place

-- all passed: their entries were put, and the last spot is the last one's
pub record PutAll (text : List ℕ) (index : ℕ) (left places : List ℕ) (known : ℕ) (entries : List ℕ) (s : Spot) (entries' : List ℕ) : Type 0 where
  pub none : (passing index known left places).refusal ≡ 0
  pub entered : entries' ≡ received_from (3 * index) entries (entries_of text (passing index known left places).places)
  pub last : s.place ≡ last_of known (passing index known left places).places
  pub spot : s.at ≡ line_column text s.place

-- one has this fault: those before it were put
pub record PutSome (text : List ℕ) (index : ℕ) (left places numbers : List ℕ) (known : ℕ) (entries : List ℕ) (f : Fault) (entries' : List ℕ) : Type 0 where
  pub refused : number_of f.refusal ≡ (passing index known left places).refusal
  pub number : f.number ≡ get_or numbers (length (passing index known left places).places) 0
  pub entered : entries' ≡ received_from (3 * index) entries (entries_of text (passing index known left places).places)

abbrev pub Put : List ℕ → ℕ → List ℕ → List ℕ → List ℕ → ℕ → List ℕ → Result Spot Fault → List ℕ → Type 0
Put text index left places numbers known entries (Ok s) entries' = PutAll text index left places known entries s entries'
Put text index left places numbers known entries (Err f) entries' = PutSome text index left places numbers known entries f entries'

-- ---- a group resolved

pub record Begun (who : Choice) (page : ℕ) (book : List ℕ) (rest : ℕ) (text copy scratch : List ℕ) (w : Walk) : Type 0 where
  pub remaining : Remaining who book w.cursor.number w.cursor.place
  pub rest-are : rest ≡ length (chosen_at who book w.cursor.number w.cursor.place)
  pub behind : w.index ≤ w.cursor.number
  pub known-page : is_page page ≡ true
  pub small : length text ≤ 32768
  pub copied : copy ≡ map (fold_on page) text
  pub room : 65535 ≤ length scratch
  pub few : w.reads ≤ 32735232
  pub spot : w.spot.at ≡ line_column text w.spot.place

-- a group of so many cues, of which those before the first one with a fault have these places, and their entries. By them the group is judged, whatever places were found before: as many as the index says, and
-- the last of them the known one
pub record GroupOf (who : Choice) (page : ℕ) (book text scratch entries : List ℕ) (w : Walk) (count next end refusal number : ℕ) (places scratch' entries' : List ℕ) : Type 0 where
  pub next-is : NextGroup who book w.cursor.number w.cursor.place count next end
  pub judged : (found : List ℕ) → w.index ≡ length found → w.spot.place ≡ place_before found
      → judge (fold_on page) text found next-is.group ≡ record { refusal = refusal; number = number; places = found ++ places }
  pub entered : entries' ≡ received_from (3 * w.index) entries (entries_of text places)
  pub emptied : scratch' ≡ replicate (length scratch) 0

-- no cue of the next group has a fault
pub record GroupedAll (who : Choice) (page : ℕ) (book text scratch entries : List ℕ) (w w' : Walk) (scratch' entries' : List ℕ) : Type 0 where
  pub count : ℕ
  pub places : List ℕ
  pub group : GroupOf who page book text scratch entries w count w'.cursor.number w'.cursor.place 0 w'.index places scratch' entries'
  pub whole : length places ≡ count
  pub index : w'.index ≡ w.index + count
  pub last : w'.spot.place ≡ last_of w.spot.place places
  pub spot : w'.spot.at ≡ line_column text w'.spot.place
  pub reads : w'.reads ≡ w.reads + length text

-- one has
pub record GroupedSome (who : Choice) (page : ℕ) (book text scratch entries : List ℕ) (w : Walk) (u : Unresolved) (scratch' entries' : List ℕ) : Type 0 where
  pub count : ℕ
  pub next : ℕ
  pub end : ℕ
  pub places : List ℕ
  pub group : GroupOf who page book text scratch entries w count next end (number_of u.fault.refusal) u.fault.number places scratch' entries'
  pub stopped : length places < count
  pub reads : u.reads ≡ w.reads + length text

abbrev pub Grouped : Choice → ℕ → List ℕ → List ℕ → List ℕ → List ℕ → Walk → Result Walk Unresolved → List ℕ → List ℕ → Type 0
Grouped who page book text scratch entries w (Ok w') scratch' entries' = GroupedAll who page book text scratch entries w w' scratch' entries'
Grouped who page book text scratch entries w (Err u) scratch' entries' = GroupedSome who page book text scratch entries w u scratch' entries'

-- ---- all groups

-- every test before 12 was passed, there is a chosen cue, and the text is folded
pub record Ready (who : Choice) (page : ℕ) (book : List ℕ) (count : ℕ) (text copy scratch entries : List ℕ) : Type 0 where
  pub read : read_book book ≡ cues (cues_in (read_book book))
  pub number : count ≡ length (playing_for who (cues_in (read_book book)))
  pub some : 1 ≤ count
  pub known : is_page page ≡ true
  pub small : length text ≤ 32768
  pub copied : copy ≡ map (fold_on page) text
  pub room : 65535 ≤ length scratch

-- what the book's chosen cues resolve to
abbrev pub resolves : Choice → ℕ → List ℕ → List ℕ → Resolution
resolves who page book text = resolution (fold_on page) text (chosen who (cues_in (read_book book)))

-- the answer, the scratch and the entries
pub record Placed (who : Choice) (page : ℕ) (book text scratch entries : List ℕ) (r : Resolving) (scratch' entries' : List ℕ) : Type 0 where
  pub answer : r ≡ answer_of (resolves who page book text)
  pub emptied : scratch' ≡ replicate (length scratch) 0
  pub entered : entries' ≡ received entries (resolves who page book text).written
