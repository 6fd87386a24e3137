-- The starred cases of document 01, "Refrains to try", the cases that document 02, (ii), (iv) and (x), names, the moves of an example run, late cuts, phrases looked for
-- together, groups of cues at their limits, and cues that do not run forward: one table, and what it means for a row to hold.
use Rattle.std.specs.Prelude.{ℕ, zero, suc, ◌-◌, Bool, true, false, cond, ◌&&◌, List, [], ◌∷◌, ◌++◌, map, length, replicate, eqb}
use Rattle.matching.specs.Occurrences.{same, occurrences}
use Rattle.matching.specs.Machine.{run, run_from, positions_in}
use Rattle.matching.specs.Find.{Engine, compared}
use Rattle.tables.specs.Tables.{tabulate}
use Rattle.letter_tables.specs.BadCharacter.{last_in, sunday_table, horspool_table}
use Rattle.letter_tables.specs.Gaps.{gap, widest, md, widest_at, mdp}
use Rattle.border_tables.specs.Kmp.{kmp_entry, kmp_table}
use Rattle.border_tables.specs.MaxShift.{max_shift, max_shift_table}
use Rattle.suffix_tables.specs.Delta2.{shift, delta2_table}
use Rattle.naive.specs.Naive.{naive}
use Rattle.kmp.specs.Kmp.{kmp}
use Rattle.horspool.specs.Horspool.{horspool}
use Rattle.sunday.specs.Sunday.{sunday}
use Rattle.fjs_steps.specs.Fjs.{window, fjs}
use Rattle.fjs_steps.specs.Moves as fjs-moves
use Rattle.fjs_steps.specs.Moves.{moves_in, numbers}
use Rattle.double_window.specs.DoubleWindow.{double_window}
use Rattle.boyer_moore.specs.BoyerMoore as bm
use Rattle.boyer_moore.specs.BoyerMoore.{boyer_moore}
use Rattle.improved_fjs.specs.ImprovedFjs as improved
use Rattle.improved_fjs.specs.ImprovedFjs.{improved_fjs}
use Rattle.cuts.specs.Cuts.{cut, new_text}
use Rattle.late_cuts.specs.LateCuts.{relisted}
use Rattle.fold.specs.Fold.{fold_on, letter_answer}
use Rattle.phrases.specs.Phrases as phrases
use Rattle.phrases.specs.Phrases.{endings}
use Rattle.phrases.specs.States.{state, step}
use Rattle.phrases.specs.Counts.{counts}
use Rattle.calendar.specs.Calendar.{day_answer, date_answer}
use Rattle.cues.specs.declared.Days.{Days}
use Rattle.cues.specs.declared.Days.TheVariants.{Always, Within}
use Rattle.cues.specs.declared.Mark.{Mark}
use Rattle.cues.specs.declared.Mark.TheVariants.{Unmarked, Open, HouseOnly}
use Rattle.cues.specs.Cue.{Cue, cue_with}
use Rattle.cue_book.specs.Book.{book_bytes}
use Rattle.cue_book.specs.Reading.{Reading, refused, cues, read_book, refusal_of, number_of}
use Rattle.cue_book.specs.Places.{title_part}
use Rattle.retitle.specs.Retitling.{retitled, retitle_refusal, retitle_answer}
use Rattle.outcome.specs.Outcome.{chosen_from, chosen, groups, Resolution, resolution, outcome}

-- a row: what is asked, and the answer that the document gives
pub data Case : Type 0 where
  -- the KMP entries b[1] to b[m + 1] of a pattern, and the moves j - b[j] of source document 001, example 1
  kmp_entries : List ℕ → List ℕ → List ℕ → Case
  -- all 256 Sunday or Horspool entries of a pattern: those of some letters, one after another, and that of every other letter
  sunday_entries : List ℕ → List ℕ → List ℕ → ℕ → Case
  horspool_entries : List ℕ → List ℕ → List ℕ → ℕ → Case
  -- DELTA2 of 1 to m of a pattern
  delta2_entries : List ℕ → List ℕ → Case
  -- the gaps d[1] to d[m] of a pattern, md and mdp
  gaps : List ℕ → List ℕ → ℕ → ℕ → Case
  -- MAX_Shift[1] to MAX_Shift[m + 1] of a pattern
  max_shifts : List ℕ → List ℕ → Case
  -- a find by an engine's steps: the pattern, the text, the positions and the comparisons
  find : Engine → List ℕ → List ℕ → List ℕ → ℕ → Case
  -- the moves of FJS for a pattern and a text, three numbers each
  window_moves : List ℕ → List ℕ → List ℕ → Case
  -- a late cut: the pattern, the old text, the list given, the stretch's start and end, the new letters; the list that comes of it, and the new text's own
  late_cut : List ℕ → List ℕ → List ℕ → ℕ → ℕ → List ℕ → List ℕ → List ℕ → Case
  -- a page and a letter, and the two numbers that folding it gives back
  fold : ℕ → ℕ → ℕ → ℕ → Case
  -- a book's bytes, and the cues that it reads as
  book : List ℕ → List Cue → Case
  -- a date by year, month and day, and the two numbers that its day is given back by; and a day, and the four numbers that its date is
  day : ℕ → ℕ → ℕ → ℕ → ℕ → Case
  date : ℕ → ℕ → ℕ → ℕ → ℕ → Case
  -- a book's bytes, a cue's index, a title and a buffer's length: the two numbers that writing the book anew with this title gives back, and the new book
  retitle : List ℕ → ℕ → List ℕ → ℕ → ℕ → ℕ → List ℕ → Case
  -- a refused book's bytes, the refusal and the index of its cue
  refused_book : List ℕ → ℕ → ℕ → Case
  -- a role, a day, a page, a book and a text, the three numbers that resolving gives back, and the entries written; the memory lent is just enough for one cue
  resolve : ℕ → ℕ → ℕ → List ℕ → List ℕ → ℕ → ℕ → ℕ → List ℕ → Case
  -- phrases and a text, and at each letter the number of the phrases that end there, by what was read and by the states' steps
  ended : List (List ℕ) → List ℕ → List ℕ → Case
  -- phrases, a text and an ordinal for each phrase: what is left of the ordinals, and the places, where 9 stood before
  counted : List (List ℕ) → List ℕ → List ℕ → List ℕ → List ℕ → Case
  -- the groups of cues by the lengths of their phrases: so many cues of each length, and how many cues each group has
  grouping : List (ℕ × ℕ) → List ℕ → Case
  -- a role, a day, a text, and the cues of a book, by page 1's fold: the three numbers and the entries that come of them
  judged : ℕ → ℕ → List ℕ → List Cue → ℕ → ℕ → ℕ → List ℕ → Case

-- the entry given to a letter, or the entry of the others
unfoldable pub given : List ℕ → List ℕ → ℕ → ℕ → ℕ
given [] entries others c = others
given (l ∷ letters) [] others c = others
given (l ∷ letters) (e ∷ entries) others c = cond (eqb c l) e (given letters entries others c)

-- the moves of the entries b[j], b[j + 1], .., here for j = q + 1
unfoldable pub moves_from : ℕ → List ℕ → List ℕ
moves_from q [] = []
moves_from q (b ∷ entries) = (suc q - b) ∷ moves_from (suc q) entries

-- a cue that plays always and has no mark, the same one from a first to a last day, and with a mark
abbrev pub always : List ℕ → ℕ → List ℕ → Cue
always phrase ordinal title = cue_with phrase ordinal title Always Unmarked

abbrev pub within : Cue → ℕ → ℕ → Cue
within c first last = cue_with c.phrase c.ordinal c.title (Within first last) c.mark

abbrev pub marked : Cue → Mark → Cue
marked c mark = cue_with c.phrase c.ordinal c.title c.days mark

-- the same days
unfoldable pub same_days : Days → Days → Bool
same_days Always Always = true
same_days Always (Within first last) = false
same_days (Within first last) Always = false
same_days (Within first last) (Within first' last') = eqb first first' && eqb last last'

-- the same marks, by a number for each
abbrev pub mark_number : Mark → ℕ
mark_number Unmarked = 0
mark_number Open = 1
mark_number HouseOnly = 2

-- the same cues, field by field
unfoldable pub same_cues : List Cue → List Cue → Bool
unfolding same same_days
same_cues [] [] = true
same_cues [] (d ∷ ds) = false
same_cues (c ∷ cs) [] = false
same_cues (c ∷ cs) (d ∷ ds) = same c.phrase d.phrase && eqb c.ordinal d.ordinal && same c.title d.title && same_days c.days d.days && eqb (mark_number c.mark) (mark_number d.mark) && same_cues cs ds

-- a reading of exactly these cues
unfoldable pub reads_as : Reading → List Cue → Bool
unfolding same_cues
reads_as (refused number index) expected = false
reads_as (cues cs) expected = same_cues cs expected

-- a resolution with these three numbers and these entries
unfoldable pub comes_to : Resolution → ℕ → ℕ → ℕ → List ℕ → Bool
unfolding same
comes_to o refusal number reads entries = eqb o.refusal refusal && eqb o.number number && eqb o.reads reads && same o.written entries

-- the first occurrences of a, so many of them, from one on
unfoldable pub as_from : ℕ → ℕ → List Cue
as_from ordinal zero = []
as_from ordinal (suc k) = always (97 ∷ []) ordinal [] ∷ as_from (suc ordinal) k

-- the entries of places one after another in the first line, so many of them, from one on
unfoldable pub in_a_row : ℕ → ℕ → List ℕ
in_a_row place zero = []
in_a_row place (suc k) = place ∷ 1 ∷ suc place ∷ in_a_row (suc place) k

-- cues with phrases of these lengths, so many of each
unfoldable pub cues_of_lengths : List (ℕ × ℕ) → List Cue
cues_of_lengths [] = []
cues_of_lengths (n ∷ ns) = replicate n.0 (always (replicate n.1 97) 1 []) ++ cues_of_lengths ns

-- a row holds: the definitions give its answer
unfoldable pub holds : Case → Bool
unfolding same tabulate last_in gap widest widest_at kmp_entry max_shift shift given moves_from occurrences run_from positions_in compared window moves_in numbers bm.window improved.window relisted letter_answer day_answer date_answer reads_as read_book book_bytes title_part retitle_refusal comes_to outcome resolution chosen_from groups cues_of_lengths endings state phrases.numbers counts
holds (kmp_entries P entries moves) = same (kmp_table P) entries && same (moves_from 0 (kmp_table P)) moves
holds (sunday_entries P letters entries others) = same (sunday_table P) (tabulate 256 (given letters entries others))
holds (horspool_entries P letters entries others) = same (horspool_table P) (tabulate 256 (given letters entries others))
holds (delta2_entries P entries) = same (delta2_table P) entries
holds (gaps P entries width letter) = same (tabulate (length P) (gap P)) entries && eqb (md P) width && eqb (mdp P) letter
holds (max_shifts P entries) = same (max_shift_table P) entries
holds (find e P T positions comparisons) = same (occurrences P T) positions && same (positions_in (run e.steps P T)) positions && eqb (compared e P T) comparisons
holds (window_moves P T entries) = same (numbers (fjs-moves.moves P T)) entries
holds (late_cut P T list start end letters places own) = same (relisted P T list (cut start end letters)) places && same (occurrences P (new_text T (cut start end letters))) own
holds (fold page letter refusal number) = eqb (letter_answer page letter).refusal refusal && eqb (letter_answer page letter).number number
holds (book bytes cs) = reads_as (read_book bytes) cs && same (book_bytes cs) bytes
holds (day year month d refusal number) = eqb (day_answer year month d).refusal refusal && eqb (day_answer year month d).number number
holds (date n refusal year month d) = eqb (date_answer n).refusal refusal && eqb (date_answer n).year year && eqb (date_answer n).month month && eqb (date_answer n).day d
holds (retitle bytes index title capacity refusal number anew) =
    eqb (retitle_answer bytes index title capacity).refusal refusal && eqb (retitle_answer bytes index title capacity).number number && same (cond (eqb refusal 0) (retitled bytes index title) []) anew
holds (refused_book bytes refusal index) = eqb (refusal_of (read_book bytes)) refusal && eqb (number_of (read_book bytes)) index
holds (resolve role on page bytes T refusal number reads entries) =
    comes_to (outcome (fold_on page) (record { who = record { role = role; day = on }; page = page; text = T; copy = length T; scratch = 65535; entries = 3 }) (read_book bytes)).resolution refusal number reads entries
holds (ended ps T es) = same (endings ps [] T) es && same (phrases.numbers (step ps) [] T) es
holds (counted ps T ordinals left places) =
    let c = counts 0 (map length ps) (endings ps [] T) (record { left = ordinals; place = replicate (length ps) 9 }) in
    same c.left left && same c.place places
holds (grouping lengths sizes) = same (map length (groups (cues_of_lengths lengths))) sizes
holds (judged role on T cs refusal number reads entries) = comes_to (resolution (fold_on 1) T (chosen (record { role = role; day = on }) cs)) refusal number reads entries

-- every row holds
unfoldable pub all_hold : List Case → Bool
unfolding holds
all_hold [] = true
all_hold (c ∷ cs) = holds c && all_hold cs

-- the words of the cases, in ASCII: a is 97, b 98, c 99, l 108, N 78, o 111; A is 65, B 66, and so on
abbrev word_a : List ℕ
word_a = 97 ∷ []

abbrev word_b : List ℕ
word_b = 98 ∷ []

abbrev word_c : List ℕ
word_c = 99 ∷ []

abbrev ab : List ℕ
ab = word_a ++ word_b

abbrev aba : List ℕ
aba = ab ++ word_a

abbrev aa : List ℕ
aa = word_a ++ word_a

abbrev aaa : List ℕ
aaa = aa ++ word_a

abbrev abaaca : List ℕ
abaaca = aba ++ word_a ++ word_c ++ word_a

-- three of its gaps are the widest
abbrev abab : List ℕ
abab = ab ++ ab

-- the text of source document 001, Figures 1 and 2
abbrev abababcababbbca : List ℕ
abababcababbbca = abab ++ ab ++ word_c ++ abab ++ word_b ++ word_b ++ word_c ++ word_a

-- the letters with entries of their own
abbrev abc : List ℕ
abc = ab ++ word_c

abbrev la : List ℕ
la = 108 ∷ word_a

-- the patterns of source document 003
abbrev ABCXXXABC : List ℕ
ABCXXXABC = 65 ∷ 66 ∷ 67 ∷ 88 ∷ 88 ∷ 88 ∷ 65 ∷ 66 ∷ 67 ∷ []

abbrev ABYXCDEYX : List ℕ
ABYXCDEYX = 65 ∷ 66 ∷ 89 ∷ 88 ∷ 67 ∷ 68 ∷ 69 ∷ 89 ∷ 88 ∷ []

-- the book la, 2, No
abbrev la_no : List ℕ
la_no = 0x01 ∷ 0x00 ∷ 0x02 ∷ 0x6C ∷ 0x61 ∷ 0x02 ∷ 0x00 ∷ 0x02 ∷ 0x00 ∷ 0x02 ∷ 0x03 ∷ 0x00 ∷ 0x02 ∷ 0x4E ∷ 0x6F ∷ []

-- dates of these four bytes: the first day and the last, high byte first
abbrev dates : ℕ → ℕ → ℕ → ℕ → List ℕ
dates a b c d = 0x04 ∷ 0x00 ∷ 0x04 ∷ a ∷ b ∷ c ∷ d ∷ []

-- a house field of this byte
abbrev house : ℕ → List ℕ
house a = 0x05 ∷ 0x00 ∷ 0x01 ∷ a ∷ []

-- the cue of that book
abbrev la_no_cue : Cue
la_no_cue = always la 2 (78 ∷ 111 ∷ [])

-- a book of one cue: the first Œ of ISO 8859-15, and no title
abbrev oe : List ℕ
oe = 0x01 ∷ 0x00 ∷ 0x01 ∷ 0xBC ∷ 0x02 ∷ 0x00 ∷ 0x02 ∷ 0x00 ∷ 0x01 ∷ 0x03 ∷ 0x00 ∷ 0x00 ∷ []

-- Aho and Corasick's example: he, she, his and hers; ushers
abbrev he_she_his_hers : List (List ℕ)
he_she_his_hers = (104 ∷ 101 ∷ []) ∷ (115 ∷ 104 ∷ 101 ∷ []) ∷ (104 ∷ 105 ∷ 115 ∷ []) ∷ (104 ∷ 101 ∷ 114 ∷ 115 ∷ []) ∷ []

abbrev ushers : List ℕ
ushers = 117 ∷ 115 ∷ 104 ∷ 101 ∷ 114 ∷ 115 ∷ []

-- the table
unfoldable pub cases : List Case
unfolding as_from in_a_row
cases =
    kmp_entries abaaca (0 ∷ 1 ∷ 0 ∷ 2 ∷ 2 ∷ 0 ∷ 2 ∷ []) (1 ∷ 1 ∷ 3 ∷ 2 ∷ 3 ∷ 6 ∷ 5 ∷ [])
    ∷ sunday_entries abaaca abc (1 ∷ 5 ∷ 2 ∷ []) 7
    ∷ horspool_entries abaaca abc (2 ∷ 4 ∷ 1 ∷ []) 6
    ∷ find fjs aba (aaa ++ aa) [] 9
    ∷ find fjs aba aaa [] 3
    ∷ find fjs aba aba (0 ∷ []) 3
    ∷ find fjs aa aaa (0 ∷ 1 ∷ []) 3
    ∷ find fjs word_a aaa (0 ∷ 1 ∷ 2 ∷ []) 3
    ∷ find fjs word_b aaa [] 2
    ∷ find naive ab word_a [] 0
    ∷ find kmp ab word_a [] 0
    ∷ find horspool ab word_a [] 0
    ∷ find sunday ab word_a [] 0
    ∷ find fjs ab word_a [] 0
    ∷ find double_window ab word_a [] 0
    ∷ delta2_entries ABCXXXABC (14 ∷ 13 ∷ 12 ∷ 11 ∷ 10 ∷ 9 ∷ 11 ∷ 10 ∷ 1 ∷ [])
    ∷ delta2_entries ABYXCDEYX (17 ∷ 16 ∷ 15 ∷ 14 ∷ 13 ∷ 12 ∷ 7 ∷ 10 ∷ 1 ∷ [])
    ∷ find boyer_moore aba (ab ++ aba) (0 ∷ 2 ∷ []) 6
    ∷ find boyer_moore ab word_a [] 0
    ∷ gaps abaaca (1 ∷ 2 ∷ 2 ∷ 1 ∷ 5 ∷ 2 ∷ []) 5 5
    ∷ gaps abab (1 ∷ 2 ∷ 2 ∷ 2 ∷ []) 2 4
    ∷ max_shifts abaaca (5 ∷ 5 ∷ 5 ∷ 5 ∷ 5 ∷ 6 ∷ 5 ∷ [])
    ∷ find improved_fjs abaaca abababcababbbca [] 11
    ∷ find improved_fjs aba (ab ++ aba) (0 ∷ 2 ∷ []) 6
    ∷ find improved_fjs ab word_a [] 0
    ∷ find fjs abaaca abababcababbbca [] 13
    ∷ window_moves abaaca abababcababbbca (0 ∷ 2 ∷ 1 ∷ 2 ∷ 4 ∷ 2 ∷ 4 ∷ 7 ∷ 2 ∷ 7 ∷ 9 ∷ 1 ∷ 9 ∷ 12 ∷ 2 ∷ [])
    ∷ window_moves aba aba (0 ∷ 2 ∷ 2 ∷ [])
    ∷ window_moves word_b aaa (0 ∷ 2 ∷ 1 ∷ [])
    ∷ window_moves ab word_a []
    ∷ late_cut la (la ++ 32 ∷ la) (0 ∷ 3 ∷ []) 2 3 la (0 ∷ 2 ∷ 4 ∷ []) (0 ∷ 2 ∷ 4 ∷ [])
    ∷ late_cut la (la ++ 32 ∷ la) (0 ∷ 3 ∷ []) 1 4 [] (0 ∷ []) (0 ∷ [])
    ∷ late_cut aba (ab ++ aba) (0 ∷ 2 ∷ []) 2 3 word_b [] []
    ∷ late_cut aba (ab ++ aba) (0 ∷ 2 ∷ []) 1 2 (word_b ++ ab) (0 ∷ 2 ∷ 4 ∷ []) (0 ∷ 2 ∷ 4 ∷ [])
    ∷ late_cut aba (ab ++ aba) [] 5 5 (word_b ++ word_a) (4 ∷ []) (0 ∷ 2 ∷ 4 ∷ [])
    ∷ late_cut aba (ab ++ aba) (0 ∷ 1 ∷ 2 ∷ []) 0 1 [] (0 ∷ 1 ∷ []) (1 ∷ [])
    ∷ fold 1 0xC9 0 0xE9
    ∷ fold 1 0xD7 0 0xD7
    ∷ fold 1 0xDF 0 0xDF
    ∷ fold 1 0xFF 0 0xFF
    ∷ fold 15 0xA6 0 0xA8
    ∷ fold 15 0xA8 0 0xA8
    ∷ fold 15 0xB4 0 0xB8
    ∷ fold 15 0xB8 0 0xB8
    ∷ fold 15 0xBC 0 0xBD
    ∷ fold 15 0xBD 0 0xBD
    ∷ fold 15 0xBE 0 0xFF
    ∷ fold 15 0xFF 0 0xFF
    ∷ fold 15 0xC9 0 0xE9
    ∷ fold 15 0xD7 0 0xD7
    ∷ fold 15 0xDF 0 0xDF
    ∷ fold 1 0xBC 0 0xBC
    ∷ fold 0 0xC9 14 0
    ∷ fold 2 0xC9 14 0
    ∷ fold 16 0xC9 14 0
    ∷ book la_no (always la 2 (78 ∷ 111 ∷ []) ∷ [])
    ∷ resolve 0 0 1 la_no (la ++ 10 ∷ la) 0 1 5 (3 ∷ 2 ∷ 1 ∷ [])
    ∷ resolve 0 0 1 la_no la 12 0 2 []
    ∷ resolve 0 0 15 oe (la ++ 0xBD ∷ []) 0 1 3 (2 ∷ 1 ∷ 3 ∷ [])
    ∷ resolve 0 0 1 oe (la ++ 0xBD ∷ []) 12 0 3 []
    ∷ resolve 0 0 0 oe (la ++ 0xBD ∷ []) 14 0 0 []
    ∷ resolve 0 0 1 [] la 0 0 0 []
    ∷ day 2000 1 1 0 0
    ∷ day 2000 2 29 0 59
    ∷ day 2000 12 31 0 365
    ∷ day 2004 2 29 0 1520
    ∷ day 2099 12 31 0 36524
    ∷ day 2001 2 29 16 0
    ∷ day 2026 4 31 16 0
    ∷ day 2026 0 1 16 0
    ∷ day 2026 13 1 16 0
    ∷ day 2026 1 0 16 0
    ∷ day 1999 12 31 16 0
    ∷ day 2100 1 1 16 0
    ∷ date 0 0 2000 1 1
    ∷ date 59 0 2000 2 29
    ∷ date 60 0 2000 3 1
    ∷ date 366 0 2001 1 1
    ∷ date 36525 16 0 0 0
    ∷ book (la_no ++ dates 0 0 0x8E 0xAC) (within (always la 2 (78 ∷ 111 ∷ [])) 0 36524 ∷ [])
    ∷ book (la_no ++ dates 0x24 0xFC 0x25 0x1A ++ la_no) (within (always la 2 (78 ∷ 111 ∷ [])) 9468 9498 ∷ always la 2 (78 ∷ 111 ∷ []) ∷ [])
    ∷ refused_book (la_no ++ dates 0 0 0x8E 0xAD) 16 0
    ∷ refused_book (la_no ++ dates 0x8E 0xAD 0 0) 16 0
    ∷ refused_book (la_no ++ la_no ++ dates 0 2 0 1) 16 1
    ∷ refused_book (la_no ++ dates 0 1 0 1 ++ dates 0 1 0 1) 8 1
    ∷ refused_book (la_no ++ 4 ∷ 0 ∷ 3 ∷ []) 9 0
    ∷ refused_book (la_no ++ 4 ∷ 0 ∷ 4 ∷ 0x8E ∷ 0xAD ∷ 0 ∷ []) 7 0
    ∷ refused_book (la_no ++ 4 ∷ 0 ∷ []) 7 0
    ∷ resolve 0 9468 1 (la_no ++ dates 0x24 0xFC 0x25 0x1A) (la ++ 10 ∷ la) 0 1 5 (3 ∷ 2 ∷ 1 ∷ [])
    ∷ resolve 0 9498 1 (la_no ++ dates 0x24 0xFC 0x25 0x1A) (la ++ 10 ∷ la) 0 1 5 (3 ∷ 2 ∷ 1 ∷ [])
    ∷ resolve 0 9467 1 (la_no ++ dates 0x24 0xFC 0x25 0x1A) (la ++ 10 ∷ la) 0 0 0 []
    ∷ resolve 0 9499 1 (la_no ++ dates 0x24 0xFC 0x25 0x1A) (la ++ 10 ∷ la) 0 0 0 []
    ∷ resolve 0 9499 1 (la_no ++ dates 0x24 0xFC 0x25 0x1A ++ la_no) la 12 1 2 []
    ∷ resolve 0 36524 1 la_no (la ++ 10 ∷ la) 0 1 5 (3 ∷ 2 ∷ 1 ∷ [])
    ∷ resolve 0 36525 0 la_no (la ++ 10 ∷ la) 16 0 0 []
    ∷ book (la_no ++ house 0) (marked la_no_cue Open ∷ [])
    ∷ book (la_no ++ house 1) (marked la_no_cue HouseOnly ∷ [])
    ∷ book (la_no ++ dates 0 1 0 2 ++ house 1 ++ la_no ++ house 0 ++ la_no) (marked (within la_no_cue 1 2) HouseOnly ∷ marked la_no_cue Open ∷ la_no_cue ∷ [])
    ∷ refused_book (la_no ++ house 2) 9 0
    ∷ refused_book (la_no ++ la_no ++ house 255) 9 1
    ∷ refused_book (la_no ++ 5 ∷ 0 ∷ 2 ∷ []) 9 0
    ∷ refused_book (la_no ++ 5 ∷ 0 ∷ 0 ∷ []) 9 0
    ∷ refused_book (la_no ++ 5 ∷ 0 ∷ 1 ∷ []) 7 0
    ∷ refused_book (la_no ++ 5 ∷ []) 7 0
    ∷ refused_book (la_no ++ house 1 ++ dates 0 1 0 2) 8 1
    ∷ refused_book (la_no ++ house 1 ++ house 1) 8 1
    ∷ refused_book (la_no ++ dates 0 2 0 1 ++ house 2) 16 0
    ∷ retitle la_no 0 word_a 14 0 14 (0x01 ∷ 0x00 ∷ 0x02 ∷ 0x6C ∷ 0x61 ∷ 0x02 ∷ 0x00 ∷ 0x02 ∷ 0x00 ∷ 0x02 ∷ 0x03 ∷ 0x00 ∷ 0x01 ∷ 0x61 ∷ [])
    ∷ retitle (la_no ++ dates 0 1 0 2 ++ house 0) 0 (78 ∷ 111 ∷ []) 26 0 26 (la_no ++ dates 0 1 0 2 ++ house 0)
    ∷ retitle (oe ++ house 1 ++ oe ++ house 0 ++ la_no) 1 word_a 48 0 48 (oe ++ house 1 ++ 0x01 ∷ 0x00 ∷ 0x01 ∷ 0xBC ∷ 0x02 ∷ 0x00 ∷ 0x02 ∷ 0x00 ∷ 0x01 ∷ 0x03 ∷ 0x00 ∷ 0x01 ∷ 0x61 ∷ [] ++ house 0 ++ la_no)
    ∷ retitle la_no 0 word_a 13 13 0 []
    ∷ retitle la_no 1 word_a 13 12 0 []
    ∷ retitle la_no 1 (replicate 201 97) 13 9 0 []
    ∷ retitle (la_no ++ house 2) 1 (replicate 201 97) 13 9 0 []
    ∷ retitle (la_no ++ la_no ++ dates 0 2 0 1) 9 (replicate 201 97) 0 16 1 []
    ∷ resolve 0 0 1 (la_no ++ house 1) (la ++ 10 ∷ la) 0 1 5 (3 ∷ 2 ∷ 1 ∷ [])
    ∷ resolve 2 0 1 (la_no ++ house 1) (la ++ 10 ∷ la) 0 0 0 []
    ∷ resolve 2 0 1 (la_no ++ house 0) (la ++ 10 ∷ la) 0 1 5 (3 ∷ 2 ∷ 1 ∷ [])
    ∷ resolve 2 0 1 (la_no ++ house 1 ++ la_no) (la ++ 10 ∷ la) 0 1 5 (3 ∷ 2 ∷ 1 ∷ [])
    ∷ resolve 0 0 1 (la_no ++ house 1 ++ la_no) (la ++ 10 ∷ la) 11 0 0 []
    ∷ resolve 2 0 1 (la_no ++ house 1 ++ la_no) la 12 0 2 []
    ∷ resolve 2 0 1 (la_no ++ house 1 ++ la_no ++ house 2) la 9 1 0 []
    ∷ resolve 1 0 1 la_no (la ++ 10 ∷ la) 19 0 0 []
    ∷ resolve 1 36525 0 (la_no ++ house 2) (la ++ 10 ∷ la) 19 0 0 []
    ∷ resolve 3 36525 0 la_no (la ++ 10 ∷ la) 19 0 0 []
    ∷ resolve 2 36525 0 la_no (la ++ 10 ∷ la) 16 0 0 []
    ∷ ended he_she_his_hers ushers (0 ∷ 0 ∷ 0 ∷ 3 ∷ 0 ∷ 8 ∷ [])
    ∷ ended (word_a ∷ aba ∷ word_a ∷ []) (aba ++ aba) (5 ∷ 0 ∷ 7 ∷ 5 ∷ 0 ∷ 7 ∷ [])
    ∷ counted he_she_his_hers ushers (1 ∷ 1 ∷ 1 ∷ 1 ∷ []) (0 ∷ 0 ∷ 1 ∷ 0 ∷ []) (2 ∷ 1 ∷ 9 ∷ 2 ∷ [])
    ∷ counted (word_a ∷ aba ∷ word_a ∷ []) (aba ++ aba) (1 ∷ 2 ∷ 4 ∷ []) (0 ∷ 0 ∷ 0 ∷ []) (0 ∷ 3 ∷ 5 ∷ [])
    ∷ grouping [] []
    ∷ grouping ((1, 1) ∷ []) (1 ∷ [])
    ∷ grouping ((64, 1) ∷ []) (64 ∷ [])
    ∷ grouping ((65, 1) ∷ []) (64 ∷ 1 ∷ [])
    ∷ grouping ((129, 1) ∷ []) (64 ∷ 64 ∷ 1 ∷ [])
    ∷ grouping ((4, 1024) ∷ []) (4 ∷ [])
    ∷ grouping ((4, 1024) ∷ (1, 1) ∷ []) (4 ∷ 1 ∷ [])
    ∷ grouping ((3, 1024) ∷ (1, 1023) ∷ (2, 1) ∷ []) (5 ∷ 1 ∷ [])
    ∷ grouping ((64, 64) ∷ (1, 1) ∷ []) (64 ∷ 1 ∷ [])
    ∷ judged 0 0 aba (always ab 1 [] ∷ always word_b 1 [] ∷ always word_a 2 [] ∷ []) 0 3 3 (0 ∷ 1 ∷ 1 ∷ 1 ∷ 1 ∷ 2 ∷ 2 ∷ 1 ∷ 3 ∷ [])
    ∷ judged 0 0 aba (always word_a 1 [] ∷ always word_b 2 [] ∷ as_from 1 63) 12 1 3 (0 ∷ 1 ∷ 1 ∷ [])
    ∷ judged 0 0 (replicate 65 97) (as_from 1 64 ++ always word_a 66 [] ∷ []) 12 64 130 (in_a_row 0 64)
    ∷ judged 0 0 (replicate 65 97) (as_from 1 65) 0 65 130 (in_a_row 0 65)
    ∷ judged 0 0 (replicate 65 97) (as_from 1 64 ++ always word_a 64 [] ∷ []) 15 64 130 (in_a_row 0 64)
    ∷ judged 0 0 aba (always word_a 2 [] ∷ always ab 1 [] ∷ []) 15 1 3 (2 ∷ 1 ∷ 3 ∷ [])
    ∷ judged 0 0 aba (always word_a 1 [] ∷ always ab 1 [] ∷ []) 15 1 3 (0 ∷ 1 ∷ 1 ∷ [])
    ∷ judged 0 0 aba (always word_a 1 [] ∷ always word_a 2 [] ∷ always word_b 1 [] ∷ []) 15 2 3 (0 ∷ 1 ∷ 1 ∷ 2 ∷ 1 ∷ 3 ∷ [])
    ∷ judged 0 0 aba (always word_a 2 [] ∷ always word_b 2 [] ∷ always word_b 1 [] ∷ []) 12 1 3 (2 ∷ 1 ∷ 3 ∷ [])
    ∷ judged 0 0 aba (always word_a 2 [] ∷ always word_b 1 [] ∷ always word_b 2 [] ∷ []) 15 1 3 (2 ∷ 1 ∷ 3 ∷ [])
    ∷ judged 0 5 aba (within (always word_c 1 []) 0 4 ∷ always word_a 1 [] ∷ within (always word_a 2 []) 6 9 ∷ within (always word_b 1 []) 5 5 ∷ []) 0 2 3 (0 ∷ 1 ∷ 1 ∷ 1 ∷ 1 ∷ 2 ∷ [])
    ∷ judged 0 5 aba (within (always word_c 1 []) 0 4 ∷ always word_a 1 [] ∷ within (always word_a 2 []) 6 9 ∷ within (always word_c 1 []) 0 5 ∷ []) 12 3 3 (0 ∷ 1 ∷ 1 ∷ [])
    ∷ judged 0 5 aba (within (always word_c 1 []) 0 4 ∷ always word_a 2 [] ∷ within (always word_a 1 []) 6 9 ∷ within (always word_b 1 []) 5 6 ∷ []) 15 3 3 (2 ∷ 1 ∷ 3 ∷ [])
    ∷ judged 0 5 (replicate 65 97) (map (λ c. within c 6 6) (as_from 1 64) ++ as_from 1 64) 0 64 65 (in_a_row 0 64)
    ∷ judged 2 5 aba (marked (always word_c 1 []) HouseOnly ∷ always word_a 1 [] ∷ marked (always word_a 2 []) HouseOnly ∷ marked (always word_b 1 []) Open ∷ []) 0 2 3 (0 ∷ 1 ∷ 1 ∷ 1 ∷ 1 ∷ 2 ∷ [])
    ∷ judged 0 5 aba (marked (always word_c 1 []) HouseOnly ∷ always word_a 1 [] ∷ marked (always word_a 2 []) HouseOnly ∷ marked (always word_b 1 []) Open ∷ []) 12 0 3 []
    ∷ judged 2 5 aba (marked (always word_c 1 []) HouseOnly ∷ always word_a 1 [] ∷ within (always word_a 2 []) 6 9 ∷ always word_c 1 [] ∷ []) 12 2 3 (0 ∷ 1 ∷ 1 ∷ [])
    ∷ judged 2 5 aba (always word_a 2 [] ∷ marked (always word_b 1 []) HouseOnly ∷ within (marked (always word_a 1 []) Open) 6 9 ∷ always word_a 1 [] ∷ []) 15 2 3 (2 ∷ 1 ∷ 3 ∷ [])
    ∷ judged 2 5 (replicate 65 97) (map (λ c. marked c HouseOnly) (as_from 1 64) ++ as_from 1 64) 0 64 65 (in_a_row 0 64)
    ∷ []
