-- The gaps between a letter of a pattern P and the same letter before it, and the widest of them (source document 001, section 3: d, md and mdp). Lists count from 0, so letter i + 1
-- stands at place i, and `gap P i` is the paper's d[i + 1].
use Rattle.std.specs.Prelude.{ℕ, zero, suc, ◌-◌, max, cond, List, length, get_or, eqb, ltb}
use Rattle.tables.specs.Tables.{largest, least}
use Rattle.letter_tables.specs.declared.Gap.{Gap}

-- d[i + 1]: the least j from 1 on with letter i + 1 - j the same as letter i + 1; i + 1 if no letter before it is
unfoldable pub gap : List ℕ → ℕ → ℕ
unfolding least
gap P i = least i 1 (λ j. eqb (get_or P (i - j) 0) (get_or P i 0))

-- the largest of d[1] to d[n], 0 if n is 0
unfoldable pub widest : List ℕ → ℕ → ℕ
unfolding gap
widest P zero = 0
widest P (suc n) = max (widest P n) (gap P n)

-- md: the widest gap of the whole pattern
abbrev pub md : List ℕ → ℕ
md P = widest P (length P)

-- the largest j from 1 to n for which d[j] is the largest of d[1] to d[n], 0 if n is 0
unfoldable pub widest_at : List ℕ → ℕ → ℕ
unfolding largest gap widest
widest_at P n = largest n (λ i. eqb (gap P i) (widest P n))

-- mdp: the position of the widest gap, the largest if more than one is as wide
abbrev pub mdp : List ℕ → ℕ
mdp P = widest_at P (length P)

-- both
abbrev pub widest_gap : List ℕ → Gap
widest_gap P = record { width = md P; letter = mdp P }

-- what the call that looks for them finds: as with the tables, nothing where the pattern is so long that a position could be above 65,535
unfoldable pub gap_found : List ℕ → Gap
unfolding widest widest_at
gap_found P = cond (ltb 65535 (length P)) (record { width = 0; letter = 0 }) (widest_gap P)
