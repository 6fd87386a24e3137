-- Rows of next states for the first states of the automaton, over the classes of letters: each letter of a phrase has a class of its own, from 1 up, and all others
-- are of class 0. They stand behind the 4,097 states: 256 classes, and then w entries for a state.
use Rattle.std.specs.Prelude.{◌≡◌, ℕ, ◌+◌, ◌*◌, ◌≤◌, ◌<◌, List, [], ◌∷◌, ◌++◌, length, get_or, cond, eqb}
use Rattle.phrases.specs.States.{next}
use Rattle.tries.specs.Tables.{letter_at, fail_at, name, Child, Trie, Linked}
use Rattle.tries.specs.Links.{Linking}

-- where these stand: the classes behind 4,097 states of eight entries, the rows behind 256 classes
abbrev pub classes_from : ℕ
classes_from = 32776

abbrev pub rows_from : ℕ
rows_from = 33032

-- the class of letter c, and entry k of the row of state s
abbrev pub class_at : List ℕ → ℕ → ℕ
class_at t c = get_or t (classes_from + c) 0

abbrev pub row_at : List ℕ → ℕ → ℕ → ℕ → ℕ
row_at t w s k = get_or t (rows_from + (w * s + k)) 0

-- the classes of the letters, w of them with class 0
pub record Classes (names : List (List ℕ)) (w : ℕ) (t : List ℕ) : Type 0 where
  pub below : (c : ℕ) → c < 256 → class_at t c < w
  pub apart : (c d : ℕ) → c < 256 → d < 256 → 1 ≤ class_at t c → class_at t c ≡ class_at t d → c ≡ d
  pub named : (s y c : ℕ) → y < length names → name names y ≡ name names s ++ (c ∷ []) → c < 256 → 1 ≤ class_at t c

-- r is the state that letter c leads to from state s
pub record Leads (ps names : List (List ℕ)) (s c r : ℕ) : Type 0 where
  pub inside : r < length names
  pub is : name names r ≡ next ps (name names s) c

-- the first `count` states have their rows
pub record Rows (ps names : List (List ℕ)) (w count : ℕ) (t : List ℕ) : Type 0 where
  pub classes : Classes names w t
  pub room : rows_from + w * count ≤ length t
  pub row : (s c : ℕ) → s < count → c < 256 → Leads ps names s c (row_at t w s (class_at t c))

-- ---- how they are made

-- the table t' has entries by a rule from place `to` on, and is else as t was
pub record Put (t t' : List ℕ) (to count : ℕ) (rule : ℕ → ℕ) : Type 0 where
  pub long : length t' ≡ length t
  pub within : (k : ℕ) → k < count → get_or t' (to + k) 0 ≡ rule k
  pub outside : (i : ℕ) → (to ≤ i → i < to + count → ⊥) → get_or t' i 0 ≡ get_or t i 0

-- the n states before the classes, each but the root with a byte for its letter
pub record Lettered (t : List ℕ) (n : ℕ) : Type 0 where
  pub few : n ≤ 4097
  pub room : rows_from ≤ length t
  pub bytes : (x : ℕ) → 1 ≤ x → x < n → get_or t (8 * x) 0 < 256

-- w is one more than the classes of the letters of the states below n
pub record Classed (t t' : List ℕ) (n w : ℕ) : Type 0 where
  pub long : length t' ≡ length t
  pub kept : (i : ℕ) → (classes_from ≤ i → i < rows_from → ⊥) → get_or t' i 0 ≡ get_or t i 0
  pub some : 1 ≤ w
  pub few : w ≤ n
  pub below : (c : ℕ) → c < 256 → class_at t' c < w
  pub apart : (c d : ℕ) → c < 256 → d < 256 → 1 ≤ class_at t' c → class_at t' c ≡ class_at t' d → c ≡ d
  pub named : (x : ℕ) → 1 ≤ x → x < n → 1 ≤ class_at t' (get_or t (8 * x) 0)

-- state s of a trie whose letters have their classes, and room for its row
pub record Rowable (names : List (List ℕ)) (t : List ℕ) (w s : ℕ) : Type 0 where
  pub trie : Trie names t
  pub classes : Classes names w t
  pub few : length names ≤ 4097
  pub bytes : (x : ℕ) → 1 ≤ x → x < length names → letter_at t x < 256
  pub inside : s < length names
  pub room : rows_from + (w * s + w) ≤ length t

-- in the row of s each child stands at its letter's class; all other entries are as before
pub record Overlaid (names : List (List ℕ)) (t t' : List ℕ) (w s : ℕ) : Type 0 where
  pub long : length t' ≡ length t
  pub outside : (i : ℕ) → (rows_from + w * s ≤ i → i < rows_from + (w * s + w) → ⊥) → get_or t' i 0 ≡ get_or t i 0
  pub laid : (y : ℕ) → 1 ≤ y → y < length names → Child names t s y → row_at t' w s (class_at t (letter_at t y)) ≡ y
  pub left : (c : ℕ) → c < 256 → ((y : ℕ) → 1 ≤ y → y < length names → Child names t s y → letter_at t y ≡ c → ⊥) → row_at t' w s (class_at t c) ≡ row_at t w s (class_at t c)

-- an automaton with its fail links below `done`, whose letters have their classes, and room for rows of its first `count` states
pub record Fillable (ps names : List (List ℕ)) (done : ℕ) (t : List ℕ) (w count : ℕ) : Type 0 where
  pub linked : Linked ps names done t
  pub classes : Classes names w t
  pub few : length names ≤ 4097
  pub bytes : (x : ℕ) → 1 ≤ x → x < length names → letter_at t x < 256
  pub room : rows_from + w * count ≤ length t

-- entry k of the row of s before its children are laid over it: that of its fail link, and 0 for the root
abbrev pub base : List ℕ → ℕ → ℕ → ℕ → ℕ
base t w s k = cond (eqb s 0) 0 (row_at t w (fail_at t s) k)

-- the links and bits are made below x, and r rows, with room for `count`
pub record Making (ps names : List (List ℕ)) (t : List ℕ) (w count x r : ℕ) : Type 0 where
  pub linking : Linking ps names x t
  pub fill : Fillable ps names x t w count
  pub rows : Rows ps names w r t
  pub some : 1 ≤ r
  pub most : count ≤ length names

-- x is the next state to get its fail link
pub record Next (t : List ℕ) (w r x : ℕ) : Type 0 where
  pub phrases : List (List ℕ)
  pub names : List (List ℕ)
  pub linking : Linking phrases names x t
  pub rows : Rows phrases names w r t
  pub some : 1 ≤ r
  pub above : 1 ≤ x
  pub inside : x < length names
  pub byte : letter_at t x < 256

-- n states have their own bits, in a table with room for one row at least
pub record Finished (t : List ℕ) (n : ℕ) : Type 0 where
  pub phrases : List (List ℕ)
  pub names : List (List ℕ)
  pub linking : Linking phrases names 1 t
  pub count : length names ≡ n
  pub few : n ≤ 4097
  pub bytes : (x : ℕ) → 1 ≤ x → x < n → letter_at t x < 256
  pub room : 37129 ≤ length t

-- it has its rows
pub record Rowed (ps names : List (List ℕ)) (t : List ℕ) (w count : ℕ) : Type 0 where
  pub linking : Linking ps names (length names) t
  pub rows : Rows ps names w count t
  pub some : 1 ≤ count

-- s is a state of an automaton in the table, with rows
pub record Standing (t : List ℕ) (w count s : ℕ) : Type 0 where
  pub phrases : List (List ℕ)
  pub names : List (List ℕ)
  pub rowed : Rowed phrases names t w count
  pub inside : s < length names

-- the same while links are made: s is below `done`
pub record Stepping (t : List ℕ) (w count s c : ℕ) : Type 0 where
  pub phrases : List (List ℕ)
  pub names : List (List ℕ)
  pub done : ℕ
  pub linked : Linked phrases names done t
  pub rows : Rows phrases names w count t
  pub some : 1 ≤ count
  pub inside : s < done
  pub byte : c < 256
