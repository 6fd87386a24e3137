-- A group's phrases, where they stand in a book, and the trie of their prefixes while it grows level by level: letter d of every phrase, then letter d + 1.
use Rattle.std.specs.Prelude.{◌≡◌, ℕ, zero, suc, ◌+◌, ◌-◌, ◌*◌, ◌≤◌, ◌<◌, true, cond, List, [], ◌∷◌, length, get_or, take, ltb}
use Rattle.phrases.specs.Phrases.{letters}
use Rattle.phrases.specs.States.{known}
use Rattle.tries.specs.Tables.{name, Plain}

-- each phrase has a letter at least and stands in the book
pub record Group (book starts lens : List ℕ) : Type 0 where
  pub pairs : length starts ≡ length lens
  pub inside : (k : ℕ) → k < length starts → get_or starts k 0 + get_or lens k 0 ≤ length book
  pub some : (k : ℕ) → k < length starts → 1 ≤ get_or lens k 0

-- how many letters of phrase k are in the trie: d, and one more for each of the first i phrases
abbrev pub depth : ℕ → ℕ → ℕ → ℕ
depth d i k = cond (ltb k i) (suc d) d

-- and how many letters of all phrases are not
unfoldable pub left : ℕ → ℕ → List (List ℕ) → ℕ
left d i [] = 0
left d zero (p ∷ ps) = (length p - d) + left d zero ps
left d (suc i) (p ∷ ps) = (length p - suc d) + left d i ps

-- the trie has n states; at[k] is that of phrase k as far as it was read. Numbers rise with the length of the names
pub record Growing (ps : List (List ℕ)) (t at : List ℕ) (n d i : ℕ) : Type 0 where
  pub names : List (List ℕ)
  pub plain : Plain names t
  pub count : length names ≡ n
  pub front : (s : ℕ) → s < n → known ps (name names s) ≡ true
  pub level : (s : ℕ) → s < n → length (name names s) ≤ suc d
  pub rising : (s r : ℕ) → s ≤ r → r < n → length (name names s) ≤ length (name names r)
  pub each : length at ≡ length ps
  pub inside : (k : ℕ) → k < length ps → get_or at k 0 < n
  pub here : (k : ℕ) → k < length ps → name names (get_or at k 0) ≡ take (depth d i k) (get_or ps k [])
  pub room : n + left d i ps ≤ suc (letters ps)
  pub small : letters ps ≤ 65534
  pub long : 8 * suc (letters ps) ≤ length t

-- the n names are all prefixes of the phrases and no other, rising in length, and that of at[k] is phrase k
pub record Named (ps names : List (List ℕ)) (at : List ℕ) (n : ℕ) : Type 0 where
  pub count : length names ≡ n
  pub few : n ≤ suc (letters ps)
  pub front : (s : ℕ) → s < n → known ps (name names s) ≡ true
  pub all : (l : List ℕ) → known ps l ≡ true → (s : ℕ) × ((s < n) × (name names s ≡ l))
  pub rising : (s r : ℕ) → s ≤ r → r < n → length (name names s) ≤ length (name names r)
  pub inside : (k : ℕ) → k < length ps → get_or at k 0 < n
  pub here : (k : ℕ) → k < length ps → name names (get_or at k 0) ≡ get_or ps k []

-- the trie has all prefixes of the phrases and no other state, and at[k] is that of phrase k
pub record Grown (ps : List (List ℕ)) (t at : List ℕ) (n : ℕ) : Type 0 where
  pub names : List (List ℕ)
  pub plain : Plain names t
  pub named : Named ps names at n

-- there is a phrase, and the table has room for the root and a state for each letter
pub record Fits (ps : List (List ℕ)) (t : List ℕ) : Type 0 where
  pub some : 1 ≤ length ps
  pub small : letters ps ≤ 65534
  pub long : 8 * suc (letters ps) ≤ length t
