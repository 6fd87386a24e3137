-- The borders of the suffixes of a pattern P, as f(1) to f(m) of source document 002, Algorithm 4, whose t ends as f(0): with them DELTA2 is made.
-- Place p of P, from 0 to m, is the one after its first p letters; the suffix at p is what follows.
use Rattle.std.specs.Prelude.{ℕ, suc, ◌+◌, ◌-◌, Bool, List, length, take, drop}
use Rattle.matching.specs.Occurrences.{same}
use Rattle.tables.specs.Tables.{least, tabulate, made}

-- whether the suffix at t stands again at p
unfoldable pub again : List ℕ → ℕ → ℕ → Bool
unfolding same
again P t p = same (drop t P) (take (length P - t) (drop p P))

-- f(p): the next place after p whose suffix stands again at p, so that m - f(p) is the longest proper border of the suffix at p; it is m where that border is empty, and m + 1 for p = m
unfoldable pub suffix_entry : List ℕ → ℕ → ℕ
unfolding least again
suffix_entry P p = least (length P - p) (suc p) (λ t. again P t p)

-- f(0) to f(m)
abbrev pub suffix_table : List ℕ → List ℕ
suffix_table P = tabulate (length P + 1) (suffix_entry P)

-- what the maker leaves of a lent table
abbrev pub suffix_made : List ℕ → List ℕ → List ℕ
suffix_made P table = made (length P + 1) (suffix_table P) table
