-- The Sunday and Horspool entries of a letter (document 01, "Definitions and steps"; Sunday: source document 001, section 2.3), and Boyer-Moore's DELTA1 (source document 002).
use Rattle.std.specs.Prelude.{ℕ, ◌+◌, ◌-◌, List, length, get_or, eqb}
use Rattle.tables.specs.Tables.{largest, tabulate, made}

-- the last position of the letter c among the first n letters of P, from 1; 0 if it is not among them
unfoldable pub last_in : List ℕ → ℕ → ℕ → ℕ
unfolding largest
last_in P n c = largest n (λ i. eqb (get_or P i 0) c)

-- a table of 256 letters: a base less the last position of each letter among the first n
abbrev pub last_table : List ℕ → ℕ → ℕ → List ℕ
last_table P base n = tabulate 256 (λ c. base - last_in P n c)

-- Sunday: m - j + 1, where j is the last position of c in P, and j = 0 if absent, so m + 1
abbrev pub sunday_entry : List ℕ → ℕ → ℕ
sunday_entry P c = length P + 1 - last_in P (length P) c

-- Horspool: m - 1 - q, where q (from 0) is the last place of c among the first m - 1 letters, so that q + 1 is its last position; m if absent
abbrev pub horspool_entry : List ℕ → ℕ → ℕ
horspool_entry P c = length P - last_in P (length P - 1) c

-- DELTA1: m less the last position of c in the whole of P, so 0 for its last letter; m if absent
abbrev pub delta1_entry : List ℕ → ℕ → ℕ
delta1_entry P c = length P - last_in P (length P) c

-- the Sunday entries of all letters
abbrev pub sunday_table : List ℕ → List ℕ
sunday_table P = tabulate 256 (sunday_entry P)

-- the Horspool entries of all letters
abbrev pub horspool_table : List ℕ → List ℕ
horspool_table P = tabulate 256 (horspool_entry P)

-- the DELTA1 entries of all letters
abbrev pub delta1_table : List ℕ → List ℕ
delta1_table P = tabulate 256 (delta1_entry P)

-- what the Sunday maker leaves of a lent table
abbrev pub sunday_made : List ℕ → List ℕ → List ℕ
sunday_made P table = made (length P + 1) (sunday_table P) table

-- what the Horspool maker leaves of a lent table
abbrev pub horspool_made : List ℕ → List ℕ → List ℕ
horspool_made P table = made (length P) (horspool_table P) table

-- what the DELTA1 maker leaves of a lent table
abbrev pub delta1_made : List ℕ → List ℕ → List ℕ
delta1_made P table = made (length P) (delta1_table P) table
