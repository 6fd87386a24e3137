-- Boyer-Moore's DELTA2 (source document 002; its last clause is about letter j, as document 02, (ii), says). Letters and positions count from 1 here, as they do there; m is the length
-- of the pattern P. Tables count from 0: DELTA2(j) stands at place j - 1.
use Rattle.std.specs.Prelude.{ℕ, suc, ◌+◌, ◌-◌, ◌*◌, Bool, cond, not, ◌&&◌, ◌||◌, List, length, get_or, eqb, ltb, leb}
use Rattle.tables.specs.Tables.{least, every, tabulate, made}
use Rattle.suffix_tables.specs.Suffixes.{suffix_made}

-- letter i
abbrev pub letter : List ℕ → ℕ → ℕ
letter P i = get_or P (i - 1) 0

-- P may move by k where letter j is the first unequal one, from the last down: (k ≥ i or P[i - k] = P[i]) for j < i ≤ m, and (k ≥ j or P[j - k] ≠ P[j])
unfoldable pub fits : List ℕ → ℕ → ℕ → Bool
unfolding every
fits P j k =
    every (length P - j) j (λ i. leb i k || eqb (letter P (i - k)) (letter P i))
    && (leb j k || not (eqb (letter P (j - k)) (letter P j)))

-- the least such k with k ≥ 1; m is one, so it is the least of all (`shift_rule` of proofs/Delta2.antt)
unfoldable pub shift : List ℕ → ℕ → ℕ
unfolding least fits
shift P j = least (length P) 1 (fits P j)

-- DELTA2(j): the least k + m - j
abbrev pub delta2_entry : List ℕ → ℕ → ℕ
delta2_entry P j = shift P j + length P - j

-- DELTA2 of 1 to m
abbrev pub delta2_table : List ℕ → List ℕ
delta2_table P = tabulate (length P) (λ q. delta2_entry P (suc q))

-- what the maker leaves of a lent table; an entry is at most 2m - 1, which fits 16 bits up to 32,768 letters. It works in the borders of the suffixes: where those are lent fewer than
-- m + 1 entries, all is as before
unfoldable pub delta2_made : List ℕ → ℕ → List ℕ → List ℕ
unfolding made
delta2_made P room table = cond (ltb (length P) room) (made (2 * length P - 1) (delta2_table P) table) table

-- what it leaves of the memory lent for these borders, beside a table of so many entries: as before where the table is too short, or an entry could be above 16 bits
unfoldable pub borders_made : List ℕ → ℕ → List ℕ → List ℕ
unfolding made
borders_made P size borders = cond (ltb size (length P) || ltb 65535 (2 * length P - 1)) borders (suffix_made P borders)
