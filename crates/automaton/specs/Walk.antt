-- What the functions of the walk ask of each other. Not part of any public promise.
use Rattle.std.specs.Prelude.{◌≡◌, ℕ, ◌^◌, ◌≤◌, ◌<◌, true, List, [], length, get_or}
use Rattle.phrases.specs.Phrases.{phrases_in, letters, is_set}
use Rattle.tries.specs.Group.{Group}
use Rattle.tries.specs.Rows.{Rowed}

-- the three lists have an entry for each of at most 64 phrases, no other bit is set, and no phrase that ends is longer than what was read
pub record Counters (bits end : ℕ) (lens left place : List ℕ) : Type 0 where
  pub few : length lens ≤ 64
  pub lefts : length left ≡ length lens
  pub places : length place ≡ length lens
  pub known : bits < 2 ^ length lens
  pub inside : (k : ℕ) → k < length lens → is_set bits k ≡ true → get_or lens k 0 ≤ end
  pub small : end ≤ 4294967295

-- what a letter folds to by a table of all letters
abbrev pub table : List ℕ → ℕ → ℕ
table folds c = get_or folds c 0

-- the lengths of the phrases
pub record LensOf (ps : List (List ℕ)) (lens : List ℕ) : Type 0 where
  pub each : length lens ≡ length ps
  pub is : (k : ℕ) → k < length ps → get_or lens k 0 ≡ length (get_or ps k [])

-- an automaton of at most 64 phrases stands in the table, and the lists have an entry for each
pub record Ahead (t : List ℕ) (w count : ℕ) (text lens left place : List ℕ) : Type 0 where
  pub phrases : List (List ℕ)
  pub names : List (List ℕ)
  pub rowed : Rowed phrases names t w count
  pub lens-of : LensOf phrases lens
  pub few : length lens ≤ 64
  pub lefts : length left ≡ length lens
  pub places : length place ≡ length lens
  pub small : length text ≤ 4294967295

-- the phrases stand in the book, each with a letter at least, and have 4,096 letters at most
pub record Good (f : ℕ → ℕ) (book starts lens : List ℕ) : Type 0 where
  pub group : Group book starts lens
  pub most : letters (phrases_in f book starts lens) ≤ 4096
