-- What the passes of DELTA2's maker ask of each other, in places from 0. Not part of any public promise.
use Rattle.std.specs.Prelude.{◌≡◌, ℕ, suc, ◌+◌, ◌≤◌, ◌<◌, List, length, get_or, drop}
use Rattle.suffix_tables.specs.Delta2.{delta2_entry}

-- the suffix at t stands again at p, letter by letter
pub record Again (P : List ℕ) (t p : ℕ) : Type 0 where
  pub letters : (i : ℕ) → t + i < length P → get_or P (p + i) 0 ≡ get_or P (t + i) 0

-- the letters after place q stand again after an earlier place r, behind another letter
pub record Behind (P : List ℕ) (q r : ℕ) : Type 0 where
  pub before : r < q
  pub again : Again P (suc q) (suc r)
  pub differs : get_or P r 0 ≡ get_or P q 0 → ⊥

-- a lent table, which was table₀, with m entries at its front that may have changed
pub record Held (P table₀ table : List ℕ) : Type 0 where
  pub room : length P ≤ length table
  pub long : length table ≡ length table₀
  pub kept : drop (length P) table ≡ drop (length P) table₀

-- its first n entries are DELTA2's, but for those whose letters stand again, behind another letter, after a place from r on
pub record Settled (P : List ℕ) (n r : ℕ) (table₀ table : List ℕ) : Type 0 where
  pub held : Held P table₀ table
  pub entry : (q : ℕ) → q < n → ((s : ℕ) → r ≤ s → Behind P q s → ⊥) → get_or table q 0 ≡ delta2_entry P (suc q)
