-- What the numbers at the letters of a text make of the ordinals and places of a group's phrases (document 02, (vi)): at each letter in order, the phrases that end there are taken from the lowest bit up,
-- each one's ordinal is counted down, and where it ends the place is kept. That this is the occurrence of that ordinal is shown in proofs/Counts.antt (`counts-are`).
use Rattle.std.specs.Prelude.{ℕ, zero, suc, ◌-◌, cond, List, [], ◌∷◌, get_or, set, eqb}
use Rattle.phrases.specs.Phrases.{is_set}

-- the bits of a number that are set among so many from bit k on, from the lowest up
unfoldable pub set_from : ℕ → ℕ → ℕ → List ℕ
set_from zero k n = []
set_from (suc count) k n = let rest = set_from count (suc k) n in cond (is_set n k) (k ∷ rest) rest

-- those of a 64-bit number
abbrev pub set_bits : ℕ → List ℕ
set_bits n = set_from 64 0 n

-- how many occurrences of each phrase are still to come, and the places
pub record Counts : Type 0 where
  pub left : List ℕ
  pub place : List ℕ

-- phrase k has ended, having begun at `start`: one less is to come, and of the last one the place is kept
unfoldable pub hit : ℕ → ℕ → Counts → Counts
hit k start c = record { left = set c.left k (get_or c.left k 0 - 1); place = cond (eqb (get_or c.left k 0) 1) (set c.place k start) c.place }

-- the same of several phrases, one after another, whose lengths are given; so many letters were read
unfoldable pub hits : ℕ → List ℕ → List ℕ → Counts → Counts
unfolding hit
hits read lens [] c = c
hits read lens (k ∷ ks) c = hits read lens ks (hit k (read - get_or lens k 0) c)

-- and of the numbers at letters in order, where so many letters were read before
unfoldable pub counts : ℕ → List ℕ → List ℕ → Counts → Counts
unfolding set_from hits
counts read lens [] c = c
counts read lens (e ∷ es) c = counts (suc read) lens es (hits (suc read) lens (set_bits e) c)
