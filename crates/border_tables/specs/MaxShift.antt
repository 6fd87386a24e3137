-- The shifts that the widest gap of a pattern P allows beside KMP's (source document 001: KMP_Shift, section 2.2, and MAX_Shift, section 3). As with the KMP entries, j is q + 1, and the
-- shift of j stands at place q of its table.
use Rattle.std.specs.Prelude.{ℕ, suc, ◌+◌, ◌-◌, cond, ◌&&◌, List, ◌++◌, length, leb}
use Rattle.tables.specs.Tables.{tabulate, made}
use Rattle.letter_tables.specs.Gaps.{widest, md}
use Rattle.border_tables.specs.Kmp.{kmp_entry, kmp_table}

-- KMP_Shift[j]: j - b[j]
abbrev pub kmp_shift : List ℕ → ℕ → ℕ
kmp_shift P q = suc q - kmp_entry P q

-- MAX_Shift[j]: md if it is at least KMP_Shift[j] and at least j - 1; KMP_Shift[j] otherwise
unfoldable pub max_shift : List ℕ → ℕ → ℕ
unfolding kmp_entry widest
max_shift P q = cond (leb (kmp_shift P q) (md P) && leb q (md P)) (md P) (kmp_shift P q)

-- MAX_Shift[1] to MAX_Shift[m + 1], from place 0 to place m
abbrev pub max_shift_table : List ℕ → List ℕ
max_shift_table P = tabulate (length P + 1) (max_shift P)

-- b[1] to b[m + 1], and then the shifts
abbrev pub border_tables : List ℕ → List ℕ
border_tables P = kmp_table P ++ max_shift_table P

-- what the maker leaves of a lent table: both; a shift of a pattern that has a letter is at most m
abbrev pub max_shift_made : List ℕ → List ℕ → List ℕ
max_shift_made P table = made (length P) (border_tables P) table
