-- The automaton's states in a lent table of 16-bit numbers, eight for a state, and what is known of them. No promise of a public function: the private ones
-- cite these records. States are numbered from 0, the root; `names` lists the letters that lead from the root to each.
use Rattle.std.specs.Prelude.{◌≡◌, ℕ, suc, ◌+◌, ◌*◌, ◌≤◌, ◌<◌, true, cond, List, [], ◌∷◌, ◌++◌, length, get_or, set, eqb}
use Rattle.std.proofs.lemmas.List.Edits.{sets}
use Rattle.phrases.specs.States.{known, fail}

-- a state's entries: its letter, its latest child, the child of the same parent before it, its fail link
abbrev pub letter_at : List ℕ → ℕ → ℕ
letter_at t s = get_or t (8 * s) 0

abbrev pub child_at : List ℕ → ℕ → ℕ
child_at t s = get_or t (8 * s + 1) 0

abbrev pub sibling_at : List ℕ → ℕ → ℕ
sibling_at t s = get_or t (8 * s + 2) 0

abbrev pub fail_at : List ℕ → ℕ → ℕ
fail_at t s = get_or t (8 * s + 3) 0

-- the letters that lead to a state
abbrev pub name : List (List ℕ) → ℕ → List ℕ
name names s = get_or names s []

-- state y is a child of state s by its own letter
abbrev pub Child : List (List ℕ) → List ℕ → ℕ → ℕ → Type 0
Child names t s y = name names y ≡ name names s ++ (letter_at t y ∷ [])

-- x is the largest number below top that has a property; 0 where none has
pub record Latest (property : ℕ → Type 0) (top x : ℕ) : Type 0 where
  pub below : x < top
  pub here : 1 ≤ x → property x
  pub none : (y : ℕ) → x < y → y < top → property y → ⊥

-- state x is a child of a state before it
pub record Parent (names : List (List ℕ)) (t : List ℕ) (x : ℕ) : Type 0 where
  pub parent : ℕ
  pub before : parent < x
  pub child : Child names t parent x

-- a trie: each state has one name, and its children are a list from the latest down
pub record Trie (names : List (List ℕ)) (t : List ℕ) : Type 0 where
  pub some : 1 ≤ length names
  pub room : 8 * length names ≤ length t
  pub root : name names 0 ≡ []
  pub once : (s r : ℕ) → s < length names → r < length names → name names s ≡ name names r → s ≡ r
  pub parent : (x : ℕ) → 1 ≤ x → x < length names → Parent names t x
  pub first : (s : ℕ) → s < length names → Latest (Child names t s) (length names) (child_at t s)
  pub sibling : (s x : ℕ) → s < length names → 1 ≤ x → x < length names → Child names t s x → Latest (Child names t s) x (sibling_at t x)

-- s is a state of some trie in the table
pub record Inside (t : List ℕ) (s : ℕ) : Type 0 where
  pub names : List (List ℕ)
  pub trie : Trie names t
  pub inside : s < length names

-- r is the child of state s by letter c, 0 where it has none
pub record LookedUp (names : List (List ℕ)) (s c r : ℕ) : Type 0 where
  pub inside : r < length names
  pub found : 1 ≤ r → name names r ≡ name names s ++ (c ∷ [])
  pub none : r ≡ 0 → (y : ℕ) → y < length names → name names y ≡ name names s ++ (c ∷ []) → ⊥

-- the states are the prefixes of the phrases, and those below `done` have their fail links
pub record Linked (ps names : List (List ℕ)) (done : ℕ) (t : List ℕ) : Type 0 where
  pub trie : Trie names t
  pub most : done ≤ length names
  pub front : (s : ℕ) → s < length names → known ps (name names s) ≡ true
  pub all : (l : List ℕ) → known ps l ≡ true → (s : ℕ) × ((s < length names) × (name names s ≡ l))
  pub falls : (s : ℕ) → 1 ≤ s → s < done → fail_at t s < s
  pub link : (s : ℕ) → 1 ≤ s → s < done → name names (fail_at t s) ≡ fail ps (name names s)

-- the table with state x as the latest child of state s by letter c; its fail link holds its parent until the links are made
unfoldable pub added : List ℕ → ℕ → ℕ → ℕ → List ℕ
added t s x c = set (sets t (8 * x) (c ∷ 0 ∷ child_at t s ∷ s ∷ 0 ∷ 0 ∷ 0 ∷ 0 ∷ [])) (8 * s + 1) x

-- and its name with those of the others
unfoldable pub with_child : List (List ℕ) → ℕ → ℕ → List (List ℕ)
with_child names s c = names ++ ((name names s ++ (c ∷ [])) ∷ [])

-- ---- while the trie grows

-- no fail link is made and no bit is set: each state's fail link holds its parent
pub record Plain (names : List (List ℕ)) (t : List ℕ) : Type 0 where
  pub trie : Trie names t
  pub up : (x : ℕ) → 1 ≤ x → x < length names → (fail_at t x < x) × Child names t (fail_at t x) x
  pub blank : (x f : ℕ) → x < length names → 4 ≤ f → f < 8 → get_or t (8 * x + f) 0 ≡ 0

-- s is one of n states, and there is room for one more for the letters cs, one or none
pub record Room (t : List ℕ) (n s : ℕ) (cs : List ℕ) : Type 0 where
  pub names : List (List ℕ)
  pub plain : Plain names t
  pub count : length names ≡ n
  pub inside : s < n
  pub room : 1 ≤ length cs → (8 * n + 8 ≤ length t) × (n ≤ 65535)

-- r is the state that the letters cs, one or none, lead to from state s: one of those that there were, or the next one
pub record Extended (old : List (List ℕ)) (t t' : List ℕ) (s : ℕ) (cs : List ℕ) (r : ℕ) : Type 0 where
  pub names : List (List ℕ)
  pub plain : Plain names t'
  pub long : length t' ≡ length t
  pub count : length names ≡ cond (eqb r (length old)) (suc (length old)) (length old)
  pub kept : (y : ℕ) → y < length old → name names y ≡ name old y
  pub inside : r < length names
  pub is : name names r ≡ name old s ++ cs
