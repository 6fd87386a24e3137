-- The bits of a state in the table, and what is known while the fail links are made and the bits joined, over rising states.
use Rattle.std.specs.Prelude.{◌≡◌, ℕ, suc, ◌+◌, ◌*◌, ◌/◌, ◌%◌, ◌^◌, ◌≤◌, ◌<◌, List, [], ◌∷◌, length, get_or, set}
use Rattle.std.proofs.lemmas.List.Edits.{sets}
use Rattle.std.specs.Int.Bits.{bit_or}
use Rattle.phrases.specs.Phrases.{ended}
use Rattle.phrases.specs.States.{fail, own}
use Rattle.tries.specs.Tables.{fail_at, name, Child, Linked}
use Rattle.phrases.specs.Phrases.{letters}

-- part j of a state's 64 bits, 16 bits in each, and the number that they are
abbrev pub part_at : List ℕ → ℕ → ℕ → ℕ
part_at t s j = get_or t (8 * s + (4 + j)) 0

abbrev pub bits_at : List ℕ → ℕ → ℕ
bits_at t s = part_at t s 0 + 65536 * (part_at t s 1 + 65536 * (part_at t s 2 + 65536 * part_at t s 3))

-- the table with bit i set of a state that has it not
unfoldable pub marked : List ℕ → ℕ → ℕ → List ℕ
marked t s i = set t (8 * s + (4 + i / 16)) (part_at t s (i / 16) + 2 ^ (i % 16))

-- the table with f as the fail link of state x, and its bits joined to those of x
unfoldable pub joined : List ℕ → ℕ → ℕ → List ℕ
joined t x f = sets t (8 * x + 3) (f ∷ bit_or (part_at t x 0) (part_at t f 0) ∷ bit_or (part_at t x 1) (part_at t f 1) ∷ bit_or (part_at t x 2) (part_at t f 2) ∷ bit_or (part_at t x 3) (part_at t f 3) ∷ [])

-- the states below x have their fail links and bits; each other one holds its parent and the phrases that it is itself
pub record Linking (ps names : List (List ℕ)) (x : ℕ) (t : List ℕ) : Type 0 where
  pub linked : Linked ps names x t
  pub up : (y : ℕ) → 1 ≤ y → x ≤ y → y < length names → (fail_at t y < y) × Child names t (fail_at t y) y
  pub bits : (y : ℕ) → y < x → bits_at t y ≡ ended ps (name names y)
  pub ones : (y : ℕ) → x ≤ y → y < length names → bits_at t y ≡ own ps (name names y)
  pub rising : (s r : ℕ) → s ≤ r → r < length names → length (name names s) ≤ length (name names r)
  pub some : (k : ℕ) → k < length ps → 1 ≤ length (get_or ps k [])

-- r is the fail link of x
pub record Failed (ps names : List (List ℕ)) (x r : ℕ) : Type 0 where
  pub below : r < x
  pub is : name names r ≡ fail ps (name names x)

-- the trie of the phrases stands in the table with n states and their own bits
pub record Marked (ps : List (List ℕ)) (t : List ℕ) (n : ℕ) : Type 0 where
  pub names : List (List ℕ)
  pub linking : Linking ps names 1 t
  pub count : length names ≡ n
  pub few : n ≤ suc (letters ps)
