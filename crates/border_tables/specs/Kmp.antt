-- Borders, and by them the KMP entries b[1] to b[m + 1] of a pattern P (document 01, "KMP entry"; source document 000; the strong borders of source document 001, section 2.2).
-- With j = q + 1 and j' = k + 1 the rule speaks of the first q and the first k letters. Tables count from 0: b[q + 1] stands at place q.
use Rattle.std.specs.Prelude.{ℕ, ◌+◌, ◌-◌, Bool, not, ◌&&◌, ◌||◌, List, length, get_or, take, drop, eqb}
use Rattle.matching.specs.Occurrences.{same}
use Rattle.tables.specs.Tables.{largest, tabulate, made}

-- P[1..k] is a border of P[1..q], k at most q: it is both its first k letters and its last k (source document 001, section 2.1)
unfoldable pub border : List ℕ → ℕ → ℕ → Bool
unfolding same
border P q k = same (take k P) (drop (q - k) (take q P))

-- the length of P's longest proper border (document 02, (ii)): it has fewer letters than P, and may have none
unfoldable pub longest_border : List ℕ → ℕ
unfolding largest border
longest_border P = largest (length P) (border P (length P)) - 1

-- b[q + 1] may be k + 1: P[1..k] is a border of P[1..q], and P[k + 1] is different from P[q + 1]. After the whole of P comes no letter, and the border is enough
unfoldable pub strong : List ℕ → ℕ → ℕ → Bool
unfolding border
strong P q k = border P q k && (eqb q (length P) || not (eqb (get_or P k 0) (get_or P q 0)))

-- b[q + 1]: the largest such k + 1, which is at most q; 0 if none
unfoldable pub kmp_entry : List ℕ → ℕ → ℕ
unfolding largest strong
kmp_entry P q = largest q (strong P q)

-- b[1] to b[m + 1], from place 0 to place m
abbrev pub kmp_table : List ℕ → List ℕ
kmp_table P = tabulate (length P + 1) (kmp_entry P)

-- what the maker leaves of a lent table
abbrev pub kmp_made : List ℕ → List ℕ → List ℕ
kmp_made P table = made (length P) (kmp_table P) table
