-- What resolving the cues of a book comes to (document 01, "Cue book, folding, lines"; document 02, (iv), (vi) to (viii) and (xiv)): which cues are chosen, where each stands, the first fault, what is written, and how
-- often the text's letters are read. It says nothing of how the places are found.
use Rattle.std.specs.Prelude.{ℕ, suc, ◌+◌, ◌-◌, ◌*◌, Bool, true, false, cond, not, ◌&&◌, ◌||◌, List, [], ◌∷◌, ◌++◌, map, length, get_or, take, eqb, ltb, leb}
use Rattle.matching.specs.Occurrences.{occurrences, has_nth}
use Rattle.matching.specs.Joined.{those}
use Rattle.matching.specs.Refusals.{Test, first_met}
use Rattle.roles.specs.Roles.{may_resolve, not_allowed}
use Rattle.calendar.specs.Calendar.{last_day}
use Rattle.fold.specs.Fold.{is_page}
use Rattle.cues.specs.declared.Choice.{Choice}
use Rattle.cues.specs.Cue.{Cue, plays_on}
use Rattle.cue_book.specs.Reading.{Reading, refused, cues, seen}
use Rattle.line_column.specs.LineColumn.{last_of, line_column}

-- ---- choose: the cues that are resolved, each with the number by which a fault names it

pub record Numbered : Type 0 where
  pub number : ℕ
  pub cue : Cue

-- the numbers rise by 1 from that one
unfoldable pub numbered_from : ℕ → List Cue → List Numbered
numbered_from k [] = []
numbered_from k (c ∷ cs) = record { number = k; cue = c } ∷ numbered_from (suc k) cs

-- those that play on a day, where the first of all has that number
unfoldable pub chosen_from : ℕ → ℕ → List Cue → List Numbered
unfolding those numbered_from
chosen_from day k cs = those (λ x. plays_on day x.cue) (numbered_from k cs)

-- the cues of a book that are chosen for a role and a day: those that the role sees are numbered, and of these the playing ones are kept. So a number is the index in the book for an operator, who sees
-- every cue, and for a guest the index among the open cues, playing or not
abbrev pub chosen : Choice → List Cue → List Numbered
chosen who cs = chosen_from who.day 0 (seen who.role cs)

-- the cues of numbered ones
abbrev pub cues_of : List Numbered → List Cue
cues_of xs = map (λ x. x.cue) xs

-- ---- place: where a cue stands, by a fold f

-- the occurrences of its folded phrase in the folded text
unfoldable pub cue_occurrences : (ℕ → ℕ) → List ℕ → Cue → List ℕ
unfolding occurrences
cue_occurrences f text c = occurrences (map f c.phrase) (map f text)

-- whether the occurrence that it names exists; ordinal 1 is the first
abbrev pub is_there : (ℕ → ℕ) → List ℕ → Cue → Bool
is_there f text c = has_nth (cue_occurrences f text c) c.ordinal

-- where that occurrence stands
abbrev pub place_of : (ℕ → ℕ) → List ℕ → Cue → ℕ
place_of f text c = get_or (cue_occurrences f text c) (c.ordinal - 1) 0

-- ---- judge: the first fault, and the places before it

-- whether a place is above that of the cue before it, where so many cues came before; the first has none before it
abbrev pub above : ℕ → ℕ → ℕ → Bool
above before last place = eqb before 0 || ltb last place

-- the refusals of one cue: there is no such occurrence (12); its place is not above that of the cue before it (15)
abbrev pub cue_tests : Bool → Bool → List Test
cue_tests there forward = (not there, 12) ∷ (not forward, 15) ∷ []

-- the fault of a cue, 0 for none, by whether its occurrence exists, how many cues came before it, the place of the last of them, and its own
unfoldable pub fault_of : Bool → ℕ → ℕ → ℕ → ℕ
unfolding first_met
fault_of there before last place = first_met (cue_tests there (above before last place))

-- the place of the cue before, the last of those found
abbrev pub place_before : List ℕ → ℕ
place_before found = last_of 0 found

-- the same by a fold, where these places were found before
unfoldable pub cue_fault : (ℕ → ℕ) → List ℕ → List ℕ → Cue → ℕ
unfolding fault_of cue_occurrences last_of
cue_fault f text found c = fault_of (is_there f text c) (length found) (place_before found) (place_of f text c)

-- 0 and the number of cues, or a refusal and the number of its cue; and the places of the cues before it
pub record Judged : Type 0 where
  pub refusal : ℕ
  pub number : ℕ
  pub places : List ℕ

-- cue by cue, up to the first fault, where these places were found before
unfoldable pub judge : (ℕ → ℕ) → List ℕ → List ℕ → List Numbered → Judged
unfolding cue_fault
judge f text found [] = record { refusal = 0; number = length found; places = found }
judge f text found (x ∷ xs) =
    let rest = judge f text (found ++ place_of f text x.cue ∷ []) xs in
    cond (eqb (cue_fault f text found x.cue) 0) rest (record { refusal = cue_fault f text found x.cue; number = x.number; places = found })

-- ---- write: place, line and column of each; line and column are those of the text as lent

unfoldable pub entries_of : List ℕ → List ℕ → List ℕ
unfolding line_column
entries_of text [] = []
entries_of text (p ∷ ps) = p ∷ (line_column text p).line ∷ (line_column text p).column ∷ entries_of text ps

-- ---- read: the text, letter by letter, once for each group of consecutive cues, as many as fit into 64 cues and 4,096 phrase bytes

-- their phrase bytes
unfoldable pub letters : List Cue → ℕ
letters [] = 0
letters (c ∷ cs) = length c.phrase + letters cs

-- whether so many cues with so many phrase bytes fit into one group
abbrev pub few : ℕ → Bool
few count = leb count 64

abbrev pub short : ℕ → Bool
short bytes = leb bytes 4096

abbrev pub fitting : ℕ → ℕ → Bool
fitting count bytes = few count && short bytes

abbrev pub fits : List Cue → Bool
fits group = fitting (length group) (letters group)

-- the groups, where the first of them has begun: a cue joins it while it fits, and else begins the next
unfoldable pub groups_after : List Cue → List Cue → List (List Cue)
unfolding letters
groups_after group [] = group ∷ []
groups_after group (c ∷ cs) =
    let more = groups_after (group ++ c ∷ []) cs in
    let anew : List (List Cue) = group ∷ groups_after (c ∷ []) cs in
    cond (fits (group ++ c ∷ [])) more anew

unfoldable pub groups : List Cue → List (List Cue)
unfolding groups_after
groups [] = []
groups (c ∷ cs) = groups_after (c ∷ []) cs

-- the cues that were judged: those with places, and the one with a fault
abbrev pub judged_count : Judged → ℕ
judged_count j = suc (length j.places)

abbrev pub judged_of : Judged → List Cue → List Cue
judged_of j cs = take (judged_count j) cs

-- every letter once for each group that was walked: the group of the cue with a fault is the last of them
unfoldable pub reads_of : List ℕ → Judged → List Cue → ℕ
unfolding groups
reads_of text j cs = length text * length (groups (judged_of j cs))

-- ---- together: what is given back, and the entries written

pub record Resolution : Type 0 where
  pub refusal : ℕ
  pub number : ℕ
  pub reads : ℕ
  pub written : List ℕ

unfoldable pub resolution : (ℕ → ℕ) → List ℕ → List Numbered → Resolution
unfolding judge entries_of reads_of
resolution f text xs =
    let j : Judged = judge f text [] xs in
    record { refusal = j.refusal; number = j.number; reads = reads_of text j (cues_of xs); written = entries_of text j.places }

-- ---- a call

-- the refusals before the book is read: a role and a day, a page, a text of n bytes, and the lengths of text copy and scratch
abbrev pub call_tests : Choice → ℕ → ℕ → ℕ → ℕ → List Test
call_tests who page n copy scratch =
    (not (may_resolve who.role), not_allowed) ∷
    (ltb last_day who.day, 16) ∷
    (ltb 32768 n, 4) ∷
    (ltb scratch 65535, 5) ∷
    (not (is_page page), 14) ∷
    (ltb copy n, 6) ∷
    []

unfoldable pub call_refusal_of : Choice → ℕ → ℕ → ℕ → ℕ → ℕ
unfolding first_met is_page
call_refusal_of who page n copy scratch = first_met (call_tests who page n copy scratch)

-- what a call is told and lent, but for the book. What the lent memory held plays no part: only its lengths do
pub record Call : Type 0 where
  pub who : Choice
  pub page : ℕ
  pub text : List ℕ
  pub copy : ℕ
  pub scratch : ℕ
  pub entries : ℕ

abbrev pub call_refusal : Call → ℕ
call_refusal c = call_refusal_of c.who c.page (length c.text) c.copy c.scratch

-- whether the cues are resolved, so that the lent memory is worked on, and what comes of it
pub record Outcome : Type 0 where
  pub works : Bool
  pub resolution : Resolution

-- refused, nothing read, all as before
abbrev pub refusing : ℕ → ℕ → Outcome
refusing refusal number = record { works = false; resolution = record { refusal = refusal; number = number; reads = 0; written = [] } }

-- fewer than 3 entries for each chosen cue (11); then the cues
unfoldable pub with_cues : (ℕ → ℕ) → Call → List Numbered → Outcome
unfolding resolution
with_cues f c xs = cond (ltb c.entries (3 * length xs)) (refusing 11 0) (record { works = true; resolution = resolution f c.text xs })

-- the book is read whole, 10 included, whatever of it is chosen; then its chosen cues
unfoldable pub with_book : (ℕ → ℕ) → Call → Reading → Outcome
unfolding chosen_from with_cues
with_book f c (refused number index) = refusing number index
with_book f c (cues cs) = with_cues f c (chosen c.who cs)

-- the outcome of a call with what its book reads as, by its page's fold f
unfoldable pub outcome : (ℕ → ℕ) → Call → Reading → Outcome
unfolding call_refusal_of with_book
outcome f c book = cond (eqb (call_refusal c) 0) (with_book f c book) (refusing (call_refusal c) 0)
