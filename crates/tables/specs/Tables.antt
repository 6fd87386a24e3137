-- What tables of any rule have in common: entries by a rule, and what a maker leaves of a lent table.
use Rattle.std.specs.Prelude.{◌≡◌, ℕ, zero, suc, ◌+◌, ◌≤◌, ◌<◌, Bool, true, cond, ◌&&◌, ◌||◌, List, [], ◌∷◌, length, get_or, ltb}
use Rattle.matching.specs.Received.{received}

-- the largest j from 1 to n that passes a test, 0 if none; lists count from 0, so the test is told j - 1
unfoldable pub largest : ℕ → (ℕ → Bool) → ℕ
largest zero test = 0
largest (suc k) test = let lower = largest k test in cond (test k) (suc k) lower

-- the least number from k on that passes a test, if one of the n numbers from k on does; k + n if none does
unfoldable pub least : ℕ → ℕ → (ℕ → Bool) → ℕ
least zero k test = k
least (suc n) k test = let later = least n (suc k) test in cond (test k) k later

-- whether each of the n numbers after j passes a test
unfoldable pub every : ℕ → ℕ → (ℕ → Bool) → Bool
every zero j test = true
every (suc n) j test = test (suc j) && every n (suc j) test

-- the entries 0 to n - 1 by a rule
unfoldable pub tabulate : ℕ → (ℕ → ℕ) → List ℕ
tabulate zero rule = []
tabulate (suc n) rule = rule 0 ∷ tabulate n (λ i. rule (suc i))

-- what a maker leaves of a lent table of 16-bit numbers: it received the entries, by the rule of a lent list. All as before where the table is shorter than the entries,
-- or where the pattern is so long that an entry could be above 65,535; `most` is the largest value that the rule gives for a pattern of its length
unfoldable pub made : ℕ → List ℕ → List ℕ → List ℕ
made most entries table = cond (ltb (length table) (length entries) || ltb 65535 most) table (received table entries)

-- a table that stands in a scratch from place a on: n entries, each by its rule
pub record Entries (a n : ℕ) (rule : ℕ → ℕ) (table : List ℕ) : Type 0 where
  pub room : a + n ≤ length table
  pub entry : (i : ℕ) → i < n → {p : ℕ} → p ≡ a + i → get_or table p 0 ≡ rule i
