-- What the parts of `relist` ask of each other and do for each other; no public promise.
use Rattle.std.specs.Prelude.{◌≡◌, ℕ, ◌+◌, ◌≤◌, ◌<◌, List, length, get_or, ℤ, pos, ◌+ℤ◌, ◌≤ℤ◌}
use Rattle.std.specs.Int.Signed.{mag}
use Rattle.matching.specs.Received.{received_from}
use Rattle.late_cuts.specs.declared.Listing.{Listing}

-- each of the first `count` entries is a place of a text
pub record Small (count : ℕ) (list : List ℕ) : Type 0 where
  pub small : (i : ℕ) → i < count → get_or list i 0 ≤ 32768

-- a place of a text that a signed number, by which no text can change its length by more, does not take below 0
pub record Moves (place : ℕ) (by : ℤ) : Type 0 where
  pub small : place ≤ 32768
  pub change : mag by ≤ 32768
  pub above : pos 0 ≤ℤ (pos place +ℤ by)

-- these places were put behind those that were there, into the same answer by the rule of a lent list
pub record Puts (old : Listing) (places : List ℕ) (new : Listing) : Type 0 where
  pub same : new.list.ghost_name ≡ old.list.ghost_name
  pub list : new.list.now ≡ received_from old.total old.list.now places
  pub total : new.total ≡ old.total + length places
