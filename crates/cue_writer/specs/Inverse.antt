-- What demand 2's theorems on the cue book speak of: books put together from written cues, and byte strings that are the bytes of valid cues.
use Rattle.std.specs.Prelude.{◌≡◌, ℕ, ◌≤◌, List, [], ◌∷◌, length, take}
use Rattle.cues.specs.Cue.{Cue}
use Rattle.matching.specs.declared.Answer.{Answer}
use Rattle.cue_book.specs.Book.{book_bytes, AllValid}
use Rattle.cue_writer.specs.Writing.{mark_given, Written}

-- these are the bytes that writing the cue, which was told to be open or for the house only, put at the start of some buffer
pub record WroteCue (c : Cue) (bytes : List ℕ) : Type 0 where
  pub house : ℕ
  pub buffer : List ℕ
  pub buffer' : List ℕ
  pub answer : Answer
  pub wrote : Written c house buffer answer buffer'
  pub given : c.mark ≡ mark_given house
  pub accepted : answer.refusal ≡ 0
  pub is : bytes ≡ take answer.number buffer'

-- a book put together from written cues, one after another
unfoldable pub Assembled : List Cue → List (List ℕ) → Type 0
Assembled [] [] = Unit {0}
Assembled [] (bytes ∷ pieces) = ⊥
Assembled (c ∷ cs) [] = ⊥
Assembled (c ∷ cs) (bytes ∷ pieces) = WroteCue c bytes × Assembled cs pieces

-- a byte string is the bytes of these cues, which are valid and at most so many
pub record Accepted (book : List ℕ) (cs : List Cue) (most : ℕ) : Type 0 where
  pub is : book ≡ book_bytes cs
  pub valid : AllValid cs
  pub few : length cs ≤ most
